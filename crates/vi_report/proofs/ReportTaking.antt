-- A text that is read as an outcome is its report.
use Rattle.std.proofs.Common.{◌≡◌, ℕ, zero, suc, ◌+◌, ◌^◌, ◌<◌, eqb, Bool, true, false, cond, List, [], ◌++◌, length, All, Option, Some, None, Result, Ok, Err, codes, refl, sym, ap, subst, ◌∙◌, arith}
use Rattle.std.specs.Prelude.{ok_or, ◌↔◌, IfOk}
use Rattle.std.specs.List.{flat_map}
use Rattle.std.proofs.lemmas.Bool.{eqb-true}
use Rattle.std.proofs.lemmas.List.{append-nil, nil_from_length}
use Rattle.std.proofs.lemmas.List.Elements.{All-nil, All-cons}
use Rattle.vi_history.specs.Outcomes.{IsEntry, NamesEntry, IsWellMade}
use Rattle.vi_history.specs.declared.entry.Entry.{Entry}
use Rattle.vi_history.specs.declared.outcome.Outcome.{Outcome}
use Rattle.vi_history.specs.declared.outcome.Shown.{Shown}
use Rattle.vi_report.specs.Texts.{head_line, entry_lines, faults_line, record_line, text}
use Rattle.vi_report.specs.Types.{IsTypedEntry, IsTypedShown, IsTyped}
use Rattle.vi_report.specs.Lines.{after, head_at, entry_at, faults_at, record_at}
use Rattle.vi_report.specs.declared.fault.ReportFault.{ReportFault}
use Rattle.vi_report.specs.Parsing.{ReadsLines}
use Rattle.vi_report.specs.Reading.{◌>>=◌, entries_at, records_at, read_report}
use Rattle.vi_report.proofs.FieldTaking.{Takes, joins, after-takes}
use Rattle.vi_report.proofs.ReportLemmas.{read_report-text}
use Rattle.vi_report.proofs.LineTaking.{head_at-takes, entry_at-takes, faults_at-takes, record_at-takes}

-- the first step read something, and so did those behind it
read_first : {A B : Type 0} (r : Result A ℕ) (f : A → Result B ℕ) (y : B) → (r >>= f) ≡ Ok y → (x : A) × (r ≡ Ok x) × (f x ≡ Ok y)
read_first (Ok x) f y h = (x, refl, h)
read_first (Err line) f y h = absurd (cc)

fits : {A : Type 0} (o : Option A) (line : ℕ) (x : A) → ok_or o line ≡ Ok x → o ≡ Some x
fits (Some y) line x h = cc
fits None line x h = absurd (cc)

same_read : {A : Type 0} (x y : A) → ◌≡◌ {A = Result A ℕ} (Ok x) (Ok y) → x ≡ y
same_read x y h = cc

ended : {A : Type 0} (test : Bool) (x y : A) (line : ℕ) → ◌≡◌ {A = Result A ℕ} (cond test (Ok x) (Err line)) (Ok y) → (test ≡ true) × (x ≡ y)
ended true x y line h = (refl, same_read x y h)
ended false x y line h = absurd (cc)

nothing : (bytes : List ℕ) → Takes bytes [] bytes
nothing bytes = record { parts = refl }

-- what lines of entries say
pub record AreEntries (count : ℕ) (entries : List Entry) : Type 0 where
  pub size : length entries ≡ count
  pub made : All IsEntry entries
  pub typed : All IsTypedEntry entries

entries_at-takes : (count number : ℕ) (bytes : List ℕ) (x : List Entry × List ℕ) → entries_at count number bytes ≡ Ok x → Takes bytes (entry_lines number x.0) x.1 × AreEntries count x.0
unfolding entries_at
entries_at-takes zero number bytes x h = rw (sym (same_read _ x h)) (nothing bytes, record { size = refl; made = All-nil IsEntry; typed = All-nil IsTypedEntry })
entries_at-takes (suc left) number bytes x h =
    let first = read_first (ok_or (entry_at number bytes) (number + 1)) _ x h in
    let others = read_first (entries_at left (number + 1) first.0.1) _ x first.2 in
    let f = entry_at-takes number bytes first.0 (fits (entry_at number bytes) (number + 1) first.0 first.1) in
    let o = entries_at-takes left (number + 1) first.0.1 others.0 others.1 in
    rw (sym (same_read _ x others.2)) (
      joins f.0 o.0,
      record { size = ap suc o.1.size; made = All-cons IsEntry first.0.0 others.0.0 f.1 o.1.made; typed = All-cons IsTypedEntry first.0.0 others.0.0 f.2 o.1.typed },
    )

-- what lines of delivered records say
pub record AreShown (many count : ℕ) (shown : List Shown) : Type 0 where
  pub size : length shown ≡ many
  pub made : All (NamesEntry count) shown
  pub typed : All IsTypedShown shown

records_at-takes : (many count line : ℕ) (bytes : List ℕ) (x : List Shown × List ℕ) → count < 2 ^ 32 → records_at many count line bytes ≡ Ok x
    → Takes bytes (flat_map record_line x.0) x.1 × AreShown many count x.0
unfolding records_at
records_at-takes zero count line bytes x few h = rw (sym (same_read _ x h)) (nothing bytes, record { size = refl; made = All-nil (NamesEntry count); typed = All-nil IsTypedShown })
records_at-takes (suc left) count line bytes x few h =
    let first = read_first (ok_or (record_at count bytes) line) _ x h in
    let others = read_first (records_at left count (line + 1) first.0.1) _ x first.2 in
    let f = record_at-takes count bytes first.0 few (fits (record_at count bytes) line first.0 first.1) in
    let o = records_at-takes left count (line + 1) first.0.1 others.0 few others.1 in
    rw (sym (same_read _ x others.2)) (
      joins f.0 o.0,
      record { size = ap suc o.1.size; made = All-cons (NamesEntry count) first.0.0 others.0.0 f.1 o.1.made; typed = All-cons IsTypedShown first.0.0 others.0.0 f.2 o.1.typed },
    )

-- an outcome whose report was read
pub record IsReportOf (bytes : List ℕ) (o : Outcome) : Type 0 where
  pub made : IsWellMade o
  pub typed : IsTyped o
  pub is : text o ≡ bytes

-- the parts of a report together
whole : (bytes rest : List ℕ) (o : Outcome) → Takes bytes (head_line (length o.entries) ++ entry_lines 1 o.entries ++ faults_line (length o.shown) o.dropped ++ flat_map record_line o.shown ++ codes "end\n") rest
    → length rest ≡ 0 → text o ≡ bytes
unfolding text
whole bytes rest o taken ends =
    let none = nil_from_length rest ends in
    let all = subst (λ (r : List ℕ). bytes ≡ (head_line (length o.entries) ++ entry_lines 1 o.entries ++ faults_line (length o.shown) o.dropped ++ flat_map record_line o.shown ++ codes "end\n") ++ r) none taken.parts in
    sym (all ∙ append-nil (head_line (length o.entries) ++ entry_lines 1 o.entries ++ faults_line (length o.shown) o.dropped ++ flat_map record_line o.shown ++ codes "end\n"))

pub read_report-takes : (bytes : List ℕ) (o : Outcome) → read_report bytes ≡ Ok o → IsReportOf bytes o
unfolding read_report
read_report-takes bytes o h =
    let head = read_first (ok_or (head_at bytes) 1) _ o h in
    let entries = read_first (entries_at head.0.0 1 head.0.1) _ o head.2 in
    let faults = read_first (ok_or (faults_at entries.0.1) (head.0.0 + 2)) _ o entries.2 in
    let shown = read_first (records_at faults.0.0.shown head.0.0 (head.0.0 + 3) faults.0.1) _ o faults.2 in
    let end = read_first (ok_or (after (codes "end\n") shown.0.1) (head.0.0 + faults.0.0.shown + 3)) _ o shown.2 in
    let found = ended (eqb (length end.0) 0) _ o (head.0.0 + faults.0.0.shown + 4) end.2 in
    let c = head_at-takes bytes head.0 (fits (head_at bytes) 1 head.0 head.1) in
    let e = entries_at-takes head.0.0 1 head.0.1 entries.0 entries.1 in
    let f = faults_at-takes entries.0.1 faults.0 (fits (faults_at entries.0.1) (head.0.0 + 2) faults.0 faults.1) in
    let s = records_at-takes faults.0.0.shown head.0.0 (head.0.0 + 3) faults.0.1 shown.0 c.1 shown.1 in
    let n = after-takes (codes "end\n") shown.0.1 end.0 (fits (after (codes "end\n") shown.0.1) (head.0.0 + faults.0.0.shown + 3) end.0 end.1) in
    let first = subst (λ (k : ℕ). Takes bytes (head_line k) head.0.1) (sym e.1.size) c.0 in
    let third = subst (λ (k : ℕ). Takes entries.0.1 (faults_line k faults.0.0.dropped) faults.0.1) (sym s.1.size) f.0 in
    let made : All (NamesEntry (length entries.0.0)) shown.0.0 = rw e.1.size s.1.made in
    rw (sym found.1) (record {
      made = record { few = omega (arith, c.1, e.1.size); few_shown = omega (arith, f.1, s.1.size); entries = e.1.made; shown = made };
      typed = record { entries = e.1.typed; shown = s.1.typed; dropped = f.2 };
      is = whole bytes end.0 _ (joins (joins (joins (joins first e.0) third) s.0) n) (eqb-true (length end.0) 0 found.0);
    })

-- of what was read: it is well made and of its types, and the bytes are its report
pub record IsRead (bytes : List ℕ) (r : Result Outcome ReportFault) : Type 0 where
  pub made : IfOk r IsWellMade
  pub typed : IfOk r IsTyped
  pub is : IfOk r (λ o. text o ≡ bytes)

pub is_report_of : (bytes : List ℕ) (r : Result Outcome ReportFault) → ReadsLines {V = Outcome} (λ o. o) r (read_report bytes) → IsRead bytes r
is_report_of bytes (Ok o) h = let found = read_report-takes bytes o h in record { made = found.made; typed = found.typed; is = found.is }
is_report_of bytes (Err e) h = record { made = tt; typed = tt; is = tt }

pub reads_exactly : (bytes : List ℕ) (o : Outcome) → (read_report bytes ≡ Ok o) ↔ (IsWellMade o × IsTyped o × (text o ≡ bytes))
reads_exactly bytes o = (
  λ h. let found = read_report-takes bytes o h in (found.made, found.typed, found.is),
  λ h. sym (ap read_report h.2) ∙ read_report-text o h.0 h.1,
)
