-- A line that is read stands there as it is written, and what it says is made as declared.
use Rattle.std.proofs.Common.{◌≡◌, ℕ, ◌+◌, ◌-◌, ◌^◌, ◌<◌, ◌≤◌, leb, eqb, List, [], ◌++◌, length, Option, Some, None, decimal, codes, refl, sym, ap, subst, arith, length-append}
use Rattle.std.specs.Prelude.{◌&&◌}
use Rattle.std.specs.Option.{option_or}
use Rattle.std.proofs.lemmas.Bool.{and_parts, leb-true, eqb-true}
use Rattle.std.proofs.lemmas.List.Elements.{All-nil}
use Rattle.std.proofs.lemmas.Option.{same_Some, cond_some}
use Rattle.hex.specs.Hex.{encode_lower}
use Rattle.vi_history.specs.Outcomes.{HasPart, HasBytes, IsEntry, NamesEntry}
use Rattle.vi_history.specs.declared.entry.Entry.{Entry}
use Rattle.vi_history.specs.declared.entry.Kind.{Kind}
use Rattle.vi_history.specs.declared.entry.Kind.TheVariants.{Status, Probed, Nothing, Set, Read, Wrote, Fault}
use Rattle.vi_history.specs.declared.outcome.Shown.{Shown}
use Rattle.vi_report.specs.declared.reading.answer.Answer.{Answer}
use Rattle.vi_report.specs.declared.reading.line.FaultCounts.{FaultCounts}
use Rattle.vi_report.specs.declared.reading.name.Name.{Name}
use Rattle.vi_report.specs.Texts.{head_line, name_text, answer_text, entry_line, faults_line, record_line}
use Rattle.vi_report.specs.Types.{AreBytes, IsTypedCaller, IsTypedEntry, IsTypedShown}
use Rattle.vi_report.specs.Lines.{after, number_at, count_at, bytes_at, sized_at, driver_at, back_at, name_at, word_of, word_at, kind_at, code_at, properties_at, read_at, said_at, answer_at, call_at, entry_at, head_at, faults_at, record_at}
use Rattle.vi_report.proofs.FieldTaking.{Takes, joins, found_first, after-takes, number_at-takes, count_at-takes, bytes_at-takes, sized_at-takes}

-- one of two found it
either : {A P : Type 0} (o p : Option A) (x : A) → (o ≡ Some x → P) → (p ≡ Some x → P) → option_or o p ≡ Some x → P
either (Some y) p x first second h = first h
either None p x first second h = second h

-- ---- names

-- what a name says is within its limits
pub record IsName (n : Name) : Type 0 where
  pub part : HasPart n.caller n.part
  pub caller : IsTypedCaller n.caller
  pub line : 1 ≤ n.line
  pub line_below : n.line < 2 ^ 32
  pub part_below : n.part < 2 ^ 32

abbrev TakesName : List ℕ → Name × List ℕ → Type 0
TakesName bytes x = Takes bytes (name_text x.0.caller x.0.line x.0.part) x.1 × IsName x.0

driver_at-takes : (bytes : List ℕ) (x : Name × List ℕ) → driver_at bytes ≡ Some x → TakesName bytes x
unfolding driver_at
driver_at-takes bytes x h =
    let d = found_first (after (codes "d") bytes) _ x h in
    let number = found_first (number_at 8 d.0) _ x d.2 in
    let dot = found_first (after (codes ".") number.0.1) _ x number.2 in
    let line = found_first (count_at (2 ^ 32) dot.0) _ x dot.2 in
    let n = number_at-takes 8 d.0 number.0 (omega arith) number.1 in
    let l = count_at-takes (2 ^ 32) dot.0 line.0 (omega arith) line.1 in
    let text = joins (joins (joins (after-takes (codes "d") bytes d.0 d.1) n.text) (after-takes (codes ".") number.0.1 dot.0 dot.1)) l.text in
    rw (sym (same_Some _ x line.2)) (text, record { part = (omega (arith, n.below), refl); caller = omega (arith, n.below); line = l.least; line_below = l.below; part_below = omega arith })

back_at-takes : (bytes : List ℕ) (x : Name × List ℕ) → back_at bytes ≡ Some x → TakesName bytes x
unfolding back_at
back_at-takes bytes x h =
    let b = found_first (after (codes "b") bytes) _ x h in
    let endpoint = found_first (number_at (2 ^ 32) b.0) _ x b.2 in
    let dot = found_first (after (codes ".") endpoint.0.1) _ x endpoint.2 in
    let line = found_first (count_at (2 ^ 32) dot.0) _ x dot.2 in
    let other = found_first (after (codes ".") line.0.1) _ x line.2 in
    let part = found_first (count_at (2 ^ 32) other.0) _ x other.2 in
    let e = number_at-takes (2 ^ 32) b.0 endpoint.0 (omega arith) endpoint.1 in
    let l = count_at-takes (2 ^ 32) dot.0 line.0 (omega arith) line.1 in
    let p = count_at-takes (2 ^ 32) other.0 part.0 (omega arith) part.1 in
    let front = joins (joins (joins (after-takes (codes "b") bytes b.0 b.1) e.text) (after-takes (codes ".") endpoint.0.1 dot.0 dot.1)) l.text in
    let text = joins (joins front (after-takes (codes ".") line.0.1 other.0 other.1)) p.text in
    rw (sym (same_Some _ x part.2)) (text, record { part = p.least; caller = e.below; line = l.least; line_below = l.below; part_below = p.below })

name_at-takes : (bytes : List ℕ) (x : Name × List ℕ) → name_at bytes ≡ Some x → TakesName bytes x
name_at-takes bytes x h = either (driver_at bytes) (back_at bytes) x (driver_at-takes bytes x) (back_at-takes bytes x) h

-- ---- answers

word_at-takes : (kind : Kind) (bytes : List ℕ) (x : Kind × List ℕ) → word_at kind bytes ≡ Some x → Takes bytes (word_of x.0) x.1
word_at-takes kind bytes x h =
    let word = found_first (after (word_of kind) bytes) _ x h in
    rw (sym (same_Some _ x word.2)) (after-takes (word_of kind) bytes word.0 word.1)

kind_at-takes : (bytes : List ℕ) (x : Kind × List ℕ) → kind_at bytes ≡ Some x → Takes bytes (word_of x.0) x.1
unfolding kind_at
kind_at-takes bytes x h =
    either _ _ x (word_at-takes Status bytes x) (either _ _ x (word_at-takes Probed bytes x) (either _ _ x (word_at-takes Nothing bytes x)
    (either _ _ x (word_at-takes Set bytes x) (either _ _ x (word_at-takes Read bytes x) (either _ _ x (word_at-takes Wrote bytes x) (word_at-takes Fault bytes x)))))) h

-- what an answer says is within its limits
pub record IsAnswer (a : Answer) : Type 0 where
  pub has : HasBytes a.kind a.code a.bytes
  pub code : a.code < 2 ^ 8
  pub bytes : AreBytes a.bytes

abbrev TakesAnswer : List ℕ → Answer × List ℕ → Type 0
TakesAnswer bytes x = Takes bytes (answer_text x.0.kind x.0.code x.0.bytes) x.1 × IsAnswer x.0

none-bytes : AreBytes []
none-bytes = All-nil (λ b. b < 2 ^ 8)

said_at-takes : (kind : Kind) (bytes rest : List ℕ) (x : Answer × List ℕ) → Takes bytes (word_of kind) rest → said_at kind rest ≡ Some x → TakesAnswer bytes x
unfolding code_at properties_at read_at
said_at-takes Status bytes rest x word h =
    let code = found_first (number_at 256 rest) _ x h in
    let n = number_at-takes 256 rest code.0 (omega arith) code.1 in
    rw (sym (same_Some _ x code.2)) (joins word n.text, record { has = refl; code = n.below; bytes = none-bytes })
said_at-takes Probed bytes rest x word h =
    let code = found_first (number_at 256 rest) _ x h in
    let space = found_first (after (codes " ") code.0.1) _ x code.2 in
    let properties = found_first (sized_at 512 space.0) _ x space.2 in
    let n = number_at-takes 256 rest code.0 (omega arith) code.1 in
    let p = sized_at-takes 512 space.0 properties.0 properties.1 in
    let text = joins (joins (joins word n.text) (after-takes (codes " ") code.0.1 space.0 space.1)) p.0.text in
    rw (sym (same_Some _ x properties.2)) (text, record { has = p.1; code = n.below; bytes = p.0.are })
said_at-takes Nothing bytes rest x word h = rw (sym (same_Some _ x h)) (word, record { has = (refl, refl); code = omega arith; bytes = none-bytes })
said_at-takes Set bytes rest x word h = rw (sym (same_Some _ x h)) (word, record { has = (refl, refl); code = omega arith; bytes = none-bytes })
said_at-takes Read bytes rest x word h =
    let read = found_first (bytes_at rest) _ x h in
    let found = cond_some (leb 1 (length read.0.0) && leb (length read.0.0) 4096) _ x read.2 in
    let sizes = and_parts (leb 1 (length read.0.0)) (leb (length read.0.0) 4096) found.0 in
    let r = bytes_at-takes rest read.0 read.1 in
    rw (sym found.1) (joins word r.text, record { has = (refl, leb-true 1 (length read.0.0) sizes.0, leb-true (length read.0.0) 4096 sizes.1); code = omega arith; bytes = r.are })
said_at-takes Wrote bytes rest x word h = rw (sym (same_Some _ x h)) (word, record { has = (refl, refl); code = omega arith; bytes = none-bytes })
said_at-takes Fault bytes rest x word h =
    let code = found_first (number_at 256 rest) _ x h in
    let n = number_at-takes 256 rest code.0 (omega arith) code.1 in
    rw (sym (same_Some _ x code.2)) (joins word n.text, record { has = refl; code = n.below; bytes = none-bytes })

answer_at-takes : (bytes : List ℕ) (x : Answer × List ℕ) → answer_at bytes ≡ Some x → TakesAnswer bytes x
unfolding answer_at
answer_at-takes bytes x h =
    let kind = found_first (kind_at bytes) _ x h in
    said_at-takes kind.0.0 bytes kind.0.1 x (kind_at-takes bytes kind.0 kind.1) kind.2

-- ---- lines

pub head_at-takes : (bytes : List ℕ) (x : ℕ × List ℕ) → head_at bytes ≡ Some x → Takes bytes (head_line x.0) x.1 × (x.0 < 2 ^ 32)
unfolding head_at
head_at-takes bytes x h =
    let word = found_first (after (codes "viommu history ") bytes) _ x h in
    let count = found_first (number_at (2 ^ 32) word.0) _ x word.2 in
    let end = found_first (after (codes "\n") count.0.1) _ x count.2 in
    let n = number_at-takes (2 ^ 32) word.0 count.0 (omega arith) count.1 in
    let text = joins (joins (after-takes (codes "viommu history ") bytes word.0 word.1) n.text) (after-takes (codes "\n") count.0.1 end.0 end.1) in
    rw (sym (same_Some _ x end.2)) (text, n.below)

call_at-takes : (number : ℕ) (bytes : List ℕ) (x : Name × List ℕ) → call_at number bytes ≡ Some x
    → Takes bytes (decimal number ++ codes " " ++ name_text x.0.caller x.0.line x.0.part ++ codes " ") x.1 × IsName x.0
unfolding call_at
call_at-takes number bytes x h =
    let read = found_first (number_at (2 ^ 32) bytes) _ x h in
    let space = found_first (after (codes " ") read.0.1) _ x read.2 in
    let name = found_first (name_at space.0) _ x space.2 in
    let other = found_first (after (codes " ") name.0.1) _ x name.2 in
    let found = cond_some (eqb read.0.0 number) _ x other.2 in
    let m = name_at-takes space.0 name.0 name.1 in
    let n = subst (λ (k : ℕ). Takes bytes (decimal k) read.0.1) (eqb-true read.0.0 number found.0) (number_at-takes (2 ^ 32) bytes read.0 (omega arith) read.1).text in
    let text = joins (joins (joins n (after-takes (codes " ") read.0.1 space.0 space.1)) m.0) (after-takes (codes " ") name.0.1 other.0 other.1) in
    rw (sym found.1) (text, m.1)

pub entry_at-takes : (number : ℕ) (bytes : List ℕ) (x : Entry × List ℕ) → entry_at number bytes ≡ Some x → Takes bytes (entry_line number x.0) x.1 × IsEntry x.0 × IsTypedEntry x.0
unfolding entry_at entry_line
entry_at-takes number bytes x h =
    let call = found_first (call_at number bytes) _ x h in
    let answer = found_first (answer_at call.0.1) _ x call.2 in
    let end = found_first (after (codes "\n") answer.0.1) _ x answer.2 in
    let n = call_at-takes number bytes call.0 call.1 in
    let a = answer_at-takes call.0.1 answer.0 answer.1 in
    let text = joins (joins n.0 a.0) (after-takes (codes "\n") answer.0.1 end.0 end.1) in
    rw (sym (same_Some _ x end.2)) (
      text,
      record { part = n.1.part; line = n.1.line; answer = a.1.has },
      record { mark = record { caller = n.1.caller; line = n.1.line_below; part = n.1.part_below; code = a.1.code }; bytes = a.1.bytes },
    )

pub faults_at-takes : (bytes : List ℕ) (x : FaultCounts × List ℕ) → faults_at bytes ≡ Some x
    → Takes bytes (faults_line x.0.shown x.0.dropped) x.1 × (x.0.shown < 2 ^ 32 - 1) × (x.0.dropped < 2 ^ 32)
unfolding faults_at
faults_at-takes bytes x h =
    let word = found_first (after (codes "faults ") bytes) _ x h in
    let all = found_first (number_at (2 ^ 33) word.0) _ x word.2 in
    let second = found_first (after (codes " shown ") all.0.1) _ x all.2 in
    let shown = found_first (number_at (2 ^ 32 - 1) second.0) _ x second.2 in
    let third = found_first (after (codes " dropped ") shown.0.1) _ x shown.2 in
    let dropped = found_first (number_at (2 ^ 32) third.0) _ x third.2 in
    let end = found_first (after (codes "\n") dropped.0.1) _ x dropped.2 in
    let found = cond_some (eqb all.0.0 (shown.0.0 + dropped.0.0)) _ x end.2 in
    let a = subst (λ (k : ℕ). Takes word.0 (decimal k) all.0.1) (eqb-true all.0.0 (shown.0.0 + dropped.0.0) found.0) (number_at-takes (2 ^ 33) word.0 all.0 (omega arith) all.1).text in
    let s = number_at-takes (2 ^ 32 - 1) second.0 shown.0 (omega arith) shown.1 in
    let d = number_at-takes (2 ^ 32) third.0 dropped.0 (omega arith) dropped.1 in
    let front = joins (joins (joins (after-takes (codes "faults ") bytes word.0 word.1) a) (after-takes (codes " shown ") all.0.1 second.0 second.1)) s.text in
    let text = joins (joins (joins front (after-takes (codes " dropped ") shown.0.1 third.0 third.1)) d.text) (after-takes (codes "\n") dropped.0.1 end.0 end.1) in
    rw (sym found.1) (text, s.below, d.below)

pub record_at-takes : (count : ℕ) (bytes : List ℕ) (x : Shown × List ℕ) → count < 2 ^ 32 → record_at count bytes ≡ Some x
    → Takes bytes (record_line x.0) x.1 × NamesEntry count x.0 × IsTypedShown x.0
unfolding record_at
record_at-takes count bytes x few h =
    let entry = found_first (count_at (count + 1) bytes) _ x h in
    let space = found_first (after (codes " ") entry.0.1) _ x entry.2 in
    let read = found_first (sized_at 24 space.0) _ x space.2 in
    let end = found_first (after (codes "\n") read.0.1) _ x read.2 in
    let e = count_at-takes (count + 1) bytes entry.0 (omega arith) entry.1 in
    let r = sized_at-takes 24 space.0 read.0 read.1 in
    let text = joins (joins (joins e.text (after-takes (codes " ") entry.0.1 space.0 space.1)) r.0.text) (after-takes (codes "\n") read.0.1 end.0 end.1) in
    rw (sym (same_Some _ x end.2)) (text, record { first = e.least; last = omega (arith, e.below) }, record { entry = omega (arith, e.below); size = r.1; bytes = r.0.are })

-- ---- a line takes a byte or more

shorter : (line bytes rest : List ℕ) → Takes bytes (line ++ codes "\n") rest → length rest < length bytes
shorter line bytes rest taken = omega (arith, ap length taken.parts, length-append (line ++ codes "\n") rest, length-append line (codes "\n"))

pub head_at-shorter : (bytes : List ℕ) (x : ℕ × List ℕ) → head_at bytes ≡ Some x → length x.1 < length bytes
head_at-shorter bytes x h = shorter (codes "viommu history " ++ decimal x.0) bytes x.1 (head_at-takes bytes x h).0

pub entry_at-shorter : (number : ℕ) (bytes : List ℕ) (x : Entry × List ℕ) → entry_at number bytes ≡ Some x → length x.1 < length bytes
unfolding entry_line
entry_at-shorter number bytes x h =
    let m = x.0.mark in
    shorter (decimal number ++ codes " " ++ name_text m.caller m.line m.part ++ codes " " ++ answer_text m.kind m.code x.0.bytes) bytes x.1 (entry_at-takes number bytes x h).0

pub faults_at-shorter : (bytes : List ℕ) (x : FaultCounts × List ℕ) → faults_at bytes ≡ Some x → length x.1 < length bytes
faults_at-shorter bytes x h =
    shorter (codes "faults " ++ decimal (x.0.shown + x.0.dropped) ++ codes " shown " ++ decimal x.0.shown ++ codes " dropped " ++ decimal x.0.dropped) bytes x.1 (faults_at-takes bytes x h).0

pub record_at-shorter : (count : ℕ) (bytes : List ℕ) (x : Shown × List ℕ) → count < 2 ^ 32 → record_at count bytes ≡ Some x → length x.1 < length bytes
record_at-shorter count bytes x few h = shorter (decimal x.0.entry ++ codes " " ++ encode_lower x.0.bytes) bytes x.1 (record_at-takes count bytes x few h).0

pub end_at-shorter : (bytes rest : List ℕ) → after (codes "end\n") bytes ≡ Some rest → length rest < length bytes
end_at-shorter bytes rest h = shorter (codes "end") bytes rest (after-takes (codes "end\n") bytes rest h)
