use Rattle.vi_commands.proofs.CommandLemmas.{command_in-form}
use Rattle.vi_commands.proofs.EndLemmas.{usage_only, usage_or_fault, past_only, too_long_or_fault, text_written, script_written, made_or_fault, done_or_fault, refused_only, refused_or_fault, report_refused, held_written, wrong_written, told_or_fault, trace_refused, read_fault_rose, write_fault_rose, refusal_text, text_cut}
use Rattle.vi_commands.proofs.top.plain_top.Goals as goal

pub carry_out-requires : goal.carry_out-requires
carry_out-requires g c = rw c.parse.ensures (command_in-form c.args.words.now)

pub returns-clause-ends : goal.returns-clause-ends
returns-clause-ends g c = rw (← c.parse.ensures) c.carry_out.ensures.ends

pub returns-clause-usage : goal.returns-clause-usage
returns-clause-usage g c = rw (← c.parse.ensures) (usage_only _ _ _ _ c.carry_out.ensures.ends)

pub returns-clause-usage_always : goal.returns-clause-usage_always
returns-clause-usage_always g c = rw (← c.parse.ensures) (usage_or_fault _ _ _ _ c.carry_out.ensures.ends)

pub returns-clause-too_long : goal.returns-clause-too_long
returns-clause-too_long g c = rw (← c.parse.ensures) (past_only _ _ _ _ c.carry_out.ensures.ends)

pub returns-clause-too_long_always : goal.returns-clause-too_long_always
returns-clause-too_long_always g c = rw (← c.parse.ensures) (too_long_or_fault _ _ _ _ c.carry_out.ensures.ends)

pub returns-clause-ok : goal.returns-clause-ok
returns-clause-ok g c = rw (← c.parse.ensures) (text_written _ _ _ _ c.carry_out.ensures.ends)

pub returns-clause-made : goal.returns-clause-made
returns-clause-made g c = rw (← c.parse.ensures) (script_written _ _ _ _ c.carry_out.ensures.ends)

pub returns-clause-made_always : goal.returns-clause-made_always
returns-clause-made_always g c = rw (← c.parse.ensures) (made_or_fault _ _ _ _ c.carry_out.ensures.ends)

pub returns-clause-accepted : goal.returns-clause-accepted
returns-clause-accepted g c = rw (← c.parse.ensures) (done_or_fault _ _ _ _ c.carry_out.ensures.ends)

pub returns-clause-bad_script : goal.returns-clause-bad_script
returns-clause-bad_script g c = rw (← c.parse.ensures) (refused_only _ _ _ _ c.carry_out.ensures.ends)

pub returns-clause-bad_script_always : goal.returns-clause-bad_script_always
returns-clause-bad_script_always g c = rw (← c.parse.ensures) (refused_or_fault _ _ _ _ c.carry_out.ensures.ends)

pub returns-clause-bad_report : goal.returns-clause-bad_report
returns-clause-bad_report g c = rw (← c.parse.ensures) (report_refused _ _ _ _ c.carry_out.ensures.ends)

pub returns-clause-held : goal.returns-clause-held
returns-clause-held g c = rw (← c.parse.ensures) (held_written _ _ _ _ c.carry_out.ensures.ends)

pub returns-clause-told : goal.returns-clause-told
returns-clause-told g c = rw (← c.parse.ensures) (told_or_fault _ _ _ _ c.carry_out.ensures.ends)

pub returns-clause-bad_trace : goal.returns-clause-bad_trace
returns-clause-bad_trace g c = rw (← c.parse.ensures) (trace_refused _ _ _ _ c.carry_out.ensures.ends)

pub returns-clause-wrong : goal.returns-clause-wrong
returns-clause-wrong g c = rw (← c.parse.ensures) (wrong_written _ _ _ _ c.carry_out.ensures.ends)

pub returns-clause-read_fault : goal.returns-clause-read_fault
returns-clause-read_fault g c = read_fault_rose _ _ _ _ c.carry_out.ensures.ends

pub returns-clause-write_fault : goal.returns-clause-write_fault
returns-clause-write_fault g c = write_fault_rose _ _ _ _ c.carry_out.ensures.ends

pub returns-clause-text : goal.returns-clause-text
returns-clause-text g c = refusal_text _ _ _ _ c.carry_out.ensures.ends

pub returns-clause-prefix : goal.returns-clause-prefix
returns-clause-prefix g c = rw (← c.parse.ensures) (text_cut _ _ _ _ c.carry_out.ensures.ends)
