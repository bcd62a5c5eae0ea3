-- Worked examples of reading, computed by the definitions.
use Rattle.std.proofs.Common.{◌≡◌, ℕ, List, [], ◌∷◌, ◌++◌, refl, Ok, Err, Option, Some, None, codes}
use Rattle.hex.proofs.OnLiterals.{hex_on_literals}
use Rattle.vi_history.specs.declared.call.Caller.TheVariants.{Driver, Back}
use Rattle.vi_history.specs.declared.entry.Kind.TheVariants.{Status, Read}
use Rattle.vi_report.specs.Lines.{after, number_at, count_at, bytes_at, sized_at, driver_at, back_at, kind_at, code_at, properties_at, read_at, answer_at, call_at, entry_at, head_at, faults_at, record_at}
use Rattle.vi_report.specs.Reading.{entries_at, records_at, read_report}

-- the first line of a text that doesn't fit, if one doesn't
bad : List ℕ → Option ℕ
bad bytes = elim (read_report bytes) [ Ok o ↦ None | Err line ↦ Some line ]

-- a report without faults, of one entry with this name and answer
with_entry : List ℕ → List ℕ
with_entry entry = codes "viommu history 1\n1 " ++ entry ++ codes "\nfaults 0 shown 0 dropped 0\nend\n"

-- a report of one entry, with this line of counts and this line of a record
with_faults : List ℕ → List ℕ → List ℕ
with_faults faults record_line = codes "viommu history 1\n1 b7.1.1 fault 2\n" ++ faults ++ codes "\n" ++ record_line ++ codes "\nend\n"

read : read_report (codes "viommu history 2\n1 d7.4294967295 status 255\n2 b4294967295.1.17 read 0aff\nfaults 3 shown 0 dropped 3\nend\n") ≡ Ok (record {
  entries =
      record { mark = record { caller = Driver 7; line = 4294967295; part = 0; kind = Status; code = 255 }; bytes = [] }
      ∷ record { mark = record { caller = Back 4294967295; line = 1; part = 17; kind = Read; code = 0 }; bytes = 10 ∷ 255 ∷ [] } ∷ [];
  shown = [];
  dropped = 3;
})
unfolding hex_on_literals after number_at count_at bytes_at sized_at driver_at back_at kind_at code_at properties_at read_at answer_at call_at entry_at head_at faults_at record_at entries_at records_at read_report
read = refl

-- names: their numbers, and the parts of back ends alone
names : bad (with_entry (codes "d0.1 set"))
    ∷ bad (with_entry (codes "d8.1 set"))
    ∷ bad (with_entry (codes "d00.1 set"))
    ∷ bad (with_entry (codes "d0.0 set"))
    ∷ bad (with_entry (codes "d0.01 set"))
    ∷ bad (with_entry (codes "d0.4294967296 set"))
    ∷ bad (with_entry (codes "d0.1.1 set"))
    ∷ bad (with_entry (codes "b7.1 set"))
    ∷ bad (with_entry (codes "b7.1.0 set"))
    ∷ bad (with_entry (codes "b4294967296.1.1 set"))
    ∷ bad (with_entry (codes "D0.1 set"))
    ∷ bad (with_entry (codes " d0.1 set"))
    ∷ bad (with_entry (codes "d0.1  set")) ∷ []
    ≡ None ∷ Some 2 ∷ Some 2 ∷ Some 2 ∷ Some 2 ∷ Some 2 ∷ Some 2 ∷ Some 2 ∷ Some 2 ∷ Some 2 ∷ Some 2 ∷ Some 2 ∷ Some 2 ∷ []
unfolding bad with_entry hex_on_literals after number_at count_at bytes_at sized_at driver_at back_at kind_at code_at properties_at read_at answer_at call_at entry_at head_at faults_at record_at entries_at records_at read_report
names = refl

-- answers, each with any name
answers : bad (with_entry (codes "d0.1 wrote"))
    ∷ bad (with_entry (codes "b7.1.1 status 0"))
    ∷ bad (with_entry (codes "d0.1 status 256"))
    ∷ bad (with_entry (codes "d0.1 status 00"))
    ∷ bad (with_entry (codes "d0.1 status"))
    ∷ bad (with_entry (codes "d0.1 fault 255"))
    ∷ bad (with_entry (codes "d0.1 read 0a"))
    ∷ bad (with_entry (codes "d0.1 read 0A"))
    ∷ bad (with_entry (codes "d0.1 read 0a0"))
    ∷ bad (with_entry (codes "d0.1 read "))
    ∷ bad (with_entry (codes "d0.1 probed 0 00"))
    ∷ bad (with_entry (codes "d0.1 nothing "))
    ∷ bad (with_entry (codes "d0.1 sett"))
    ∷ bad (with_entry (codes "d0.1 ")) ∷ []
    ≡ None ∷ None ∷ Some 2 ∷ Some 2 ∷ Some 2 ∷ None ∷ None ∷ Some 2 ∷ Some 2 ∷ Some 2 ∷ Some 2 ∷ Some 2 ∷ Some 2 ∷ Some 2 ∷ []
unfolding bad with_entry hex_on_literals after number_at count_at bytes_at sized_at driver_at back_at kind_at code_at properties_at read_at answer_at call_at entry_at head_at faults_at record_at entries_at records_at read_report
answers = refl

-- counts of faults and delivered records, which aren't held against the entries
faults : bad (with_faults (codes "faults 1 shown 1 dropped 0") (codes "1 0102030405060708090a0b0c0d0e0f101112131415161718"))
    ∷ bad (with_faults (codes "faults 1 shown 1 dropped 0") (codes "2 0102030405060708090a0b0c0d0e0f101112131415161718"))
    ∷ bad (with_faults (codes "faults 1 shown 1 dropped 0") (codes "0 0102030405060708090a0b0c0d0e0f101112131415161718"))
    ∷ bad (with_faults (codes "faults 1 shown 1 dropped 0") (codes "1 0102030405060708090a0b0c0d0e0f1011121314151617"))
    ∷ bad (with_faults (codes "faults 1 shown 1 dropped 0") (codes "1 0102030405060708090A0b0c0d0e0f101112131415161718"))
    ∷ bad (with_faults (codes "faults 1 shown 0 dropped 1") (codes "1 0102030405060708090a0b0c0d0e0f101112131415161718"))
    ∷ bad (with_faults (codes "faults 2 shown 1 dropped 0") (codes "1 0102030405060708090a0b0c0d0e0f101112131415161718"))
    ∷ bad (codes "viommu history 0\nfaults 4294967295 shown 4294967295 dropped 0\nend\n")
    ∷ bad (codes "viommu history 0\nfaults 1 shown 1 dropped 0\nend\n")
    ∷ bad (codes "viommu history 0\nfaults 8589934589 shown 4294967294 dropped 4294967295\nend\n")
    ∷ bad (codes "viommu history 0\nfaults 4294967296 shown 0 dropped 4294967296\nend\n")
    ∷ bad (codes "viommu history 0\nfaults 00 shown 0 dropped 0\nend\n") ∷ []
    ≡ None ∷ Some 4 ∷ Some 4 ∷ Some 4 ∷ Some 4 ∷ Some 4 ∷ Some 3 ∷ Some 2 ∷ Some 3 ∷ Some 3 ∷ Some 2 ∷ Some 2 ∷ []
unfolding bad with_faults hex_on_literals after number_at count_at bytes_at sized_at driver_at back_at kind_at code_at properties_at read_at answer_at call_at entry_at head_at faults_at record_at entries_at records_at read_report
faults = refl

-- lines that are missing, cut off or too many
lines : bad (codes "viommu history 0\nfaults 0 shown 0 dropped 0\nend\n")
    ∷ bad []
    ∷ bad (codes "viommu history 0")
    ∷ bad (codes "viommu history 00\n")
    ∷ bad (codes "viommu history 4294967296\n")
    ∷ bad (codes "viommu history 0\r\n")
    ∷ bad (codes "viommu history 0\n")
    ∷ bad (codes "viommu history 0\nfaults 0 shown 0 dropped 0\n")
    ∷ bad (codes "viommu history 0\nfaults 0 shown 0 dropped 0\nend")
    ∷ bad (codes "viommu history 0\nfaults 0 shown 0 dropped 0\nend \n")
    ∷ bad (codes "viommu history 0\nfaults 0 shown 0 dropped 0\nend\n\n")
    ∷ bad (codes "viommu history 0\nfaults 0 shown 0 dropped 0\nend\nx")
    ∷ bad (codes "viommu history 2\n1 d0.1 set\n")
    ∷ bad (codes "viommu history 2\n1 d0.1 set\n2 d0.2 se")
    ∷ bad (codes "viommu history 2\n1 d0.1 set\n3 d0.2 set\n")
    ∷ bad (codes "viommu history 2\n1 d0.1 set\n02 d0.2 set\n")
    ∷ bad (codes "viommu history 2\n1 d0.1 set\nfaults 0 shown 0 dropped 0\nend\n")
    ∷ bad (codes "viommu history 1\n1 d0.1 set\n2 d0.2 set\nfaults 0 shown 0 dropped 0\nend\n") ∷ []
    ≡ None ∷ Some 1 ∷ Some 1 ∷ Some 1 ∷ Some 1 ∷ Some 1 ∷ Some 2 ∷ Some 3 ∷ Some 3 ∷ Some 3 ∷ Some 4 ∷ Some 4 ∷ Some 3 ∷ Some 3 ∷ Some 3 ∷ Some 3 ∷ Some 3 ∷ Some 3 ∷ []
unfolding bad hex_on_literals after number_at count_at bytes_at sized_at driver_at back_at kind_at code_at properties_at read_at answer_at call_at entry_at head_at faults_at record_at entries_at records_at read_report
lines = refl
