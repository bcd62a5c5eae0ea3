use Rattle.std.proofs.Common.{sym, ◌∙◌, rules}
use Rattle.vi_commands.proofs.ReplyLemmas.{AreMade-entry, AreMade-record, IsEntry-for, entry_reason, entry_without_record}
use Rattle.vi_commands.proofs.course.Course.reply.Goals as goal

pub invariant_of-self-then-not-is_fault : goal.invariant_of-self-then-not-is_fault
invariant_of-self-then-not-is_fault c =
    let e = c.in_ok-entry.ensures in
    let is = IsEntry-for c.in_ok-entry.entry _ _ _ e.caller e.line e.part c.requires.part c.requires.line e.bytes in
    rw c.in_ok-push.ensures.items (AreMade-entry _ _ _ c.self.invariant is)

pub record-requires : goal.record-requires
record-requires c = entry_reason c.in_ok-entry.entry _ _ c.in_ok-entry.ensures.answer (sym c.is_fault.ensures ∙ c.if-not-is_fault.false)

pub invariant_of-self-in-Some : goal.invariant_of-self-in-Some
invariant_of-self-in-Some c =
    let e = c.in_ok-entry.ensures in
    let is = IsEntry-for c.in_ok-entry.entry _ _ _ e.caller e.line e.part c.requires.part c.requires.line e.bytes in
    rw (c.in_ok-push-in-Some.ensures.items, c.in_ok-push.ensures.items) (AreMade-record _ _ _ _ c.self.invariant is (search rules))

pub invariant_of-self-in_err-push-in-Some : goal.invariant_of-self-in_err-push-in-Some
invariant_of-self-in_err-push-in-Some c =
    let e = c.in_ok-entry.ensures in
    let is = IsEntry-for c.in_ok-entry.entry _ _ _ e.caller e.line e.part c.requires.part c.requires.line e.bytes in
    rw (c.in_err-push-in-Some.ensures.items, c.in_ok-push.ensures.items) (AreMade-entry _ _ _ c.self.invariant is)

pub invariant_of-self-in-None : goal.invariant_of-self-in-None
invariant_of-self-in-None c =
    let e = c.in_ok-entry.ensures in
    let is = IsEntry-for c.in_ok-entry.entry _ _ _ e.caller e.line e.part c.requires.part c.requires.line e.bytes in
    rw c.in_ok-push.ensures.items (AreMade-entry _ _ _ c.self.invariant is)

pub returns-in-None-clause-faults : goal.returns-in-None-clause-faults
returns-in-None-clause-faults c =
    entry_without_record c.in_ok-entry.entry _ _ c.in_ok-entry.entry.mark.code c.in_ok-entry.ensures.answer (sym c.is_fault.ensures ∙ c.if-not-is_fault.false) (rw c.in-None.is at c.record.ensures)

pub returns-in-None-clause-replied : goal.returns-in-None-clause-replied
returns-in-None-clause-replied c =
    entry_without_record c.in_ok-entry.entry _ _ c.in_ok-entry.entry.mark.code c.in_ok-entry.ensures.answer (sym c.is_fault.ensures ∙ c.if-not-is_fault.false) (rw c.in-None.is at c.record.ensures)
