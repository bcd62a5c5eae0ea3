-- Worked examples, computed by the definitions.
use Rattle.std.proofs.Common.{◌≡◌, ℕ, true, false, List, [], ◌∷◌, ◌++◌, refl, Ok, Err, Option, Some, None, codes}
use Rattle.vi_history.specs.declared.call.Caller.TheVariants.{Driver, Back}
use Rattle.vi_history.specs.declared.request.Request.TheVariants.{Attach, Map}
use Rattle.vi_words.specs.Words.{lines_of_text, words_of}
use Rattle.vi_words.specs.Numbers.{number_of, digits_in, name_number_of, hex_of}
use Rattle.vi_script.specs.declared.fault.BadKind.{BadKind}
use Rattle.vi_script.specs.declared.fault.BadKind.TheVariants.{Byte, Word, Late, Number, Hex, Again, Endpoint, Span, Limit, After}
use Rattle.vi_lines.specs.declared.job.Job.TheVariants.{Ask, Read, Write}
use Rattle.vi_script.specs.Forms.{form_of, await_of}
use Rattle.vi_script.specs.Said.{script_of, setup_of}
use Rattle.vi_script.specs.Texts.{script, judge, Bad}

-- a text with an LF behind each of these lines
text_of : List (List ℕ) → List ℕ
text_of [] = []
text_of (line ∷ lines) = line ++ 10 ∷ text_of lines

-- what is wrong with a text, if anything
wrong : List (List ℕ) → Option Bad
wrong lines = elim (script (text_of lines)) [ Ok s ↦ None | Err bad ↦ Some bad ]

at : ℕ → BadKind → Option Bad
at line kind = Some (record { line = line; kind = kind })

-- the text of a first example, as a script
first_example : script (text_of (
    codes "memory 1" ∷ codes "endpoint 7" ∷ codes "d0 attach 1 7" ∷ codes "d0 map 1 0x1000 0x1fff 0x0 rw"
    ∷ codes "b7 write 0x1000 61626364 after d0.2" ∷ codes "b7 read 0x1000 4" ∷ [])) ≡ Ok (record {
      setup = record {
        memory = 1;
        queue = 16;
        cache = 8;
        granule = 4096;
        input = record { first = 0; last = 18446744073709551615 };
        bypass = false;
        events = true;
        endpoints = record { id = 7; regions = [] } ∷ [];
      };
      turns = [];
      lines =
          record { caller = Driver 0; job = Ask (Attach 1 7 0); add = false; awaits = [] }
          ∷ record { caller = Driver 0; job = Ask (Map 1 0x1000 0x1fff 0 3); add = false; awaits = [] }
          ∷ record { caller = Back 7; job = Write 0x1000 (0x61 ∷ 0x62 ∷ 0x63 ∷ 0x64 ∷ []); add = false; awaits = record { caller = Driver 0; line = 2 } ∷ [] }
          ∷ record { caller = Back 7; job = Read 0x1000 4; add = false; awaits = [] } ∷ [];
    })
unfolding text_of script lines_of_text words_of number_of digits_in name_number_of hex_of form_of await_of script_of setup_of judge
first_example = refl

-- settings: their forms, their limits, and each once
settings : wrong (codes "memory 16384" ∷ [])
    ∷ wrong (codes "memory 16385" ∷ [])
    ∷ wrong (codes "memory 0" ∷ [])
    ∷ wrong (codes "memory 0x4000" ∷ [])
    ∷ wrong (codes "memory 0X10" ∷ [])
    ∷ wrong (codes "memory" ∷ [])
    ∷ wrong (codes "memory 1 1" ∷ [])
    ∷ wrong (codes "memory 1" ∷ codes "# memory 2" ∷ codes "memory 2" ∷ [])
    ∷ wrong (codes "queue 256" ∷ [])
    ∷ wrong (codes "queue 17" ∷ [])
    ∷ wrong (codes "cache 65" ∷ [])
    ∷ wrong (codes "granule 8192" ∷ [])
    ∷ wrong (codes "input 1 1" ∷ [])
    ∷ wrong (codes "input 2 1" ∷ [])
    ∷ wrong (codes "input 0 18446744073709551616" ∷ [])
    ∷ wrong (codes "bypass maybe" ∷ [])
    ∷ wrong (codes "bypass on" ∷ codes "bypass off" ∷ [])
    ∷ wrong (codes "events off" ∷ []) ∷ []
    ≡ None ∷ at 1 Limit ∷ at 1 Limit ∷ None ∷ at 1 Number ∷ at 1 Word ∷ at 1 Word ∷ at 3 Again ∷ None ∷ at 1 Limit ∷ at 1 Limit ∷ at 1 Limit ∷ None ∷ at 1 Span ∷ at 1 Number ∷ at 1 Word ∷ at 2 Again ∷ None ∷ []
unfolding wrong text_of at script lines_of_text words_of number_of digits_in name_number_of hex_of form_of await_of script_of setup_of judge
settings = refl

-- endpoints, regions and turns
endpoints : wrong (codes "endpoint 4294967295" ∷ [])
    ∷ wrong (codes "endpoint 4294967296" ∷ [])
    ∷ wrong (codes "endpoint 7" ∷ codes "endpoint 7" ∷ [])
    ∷ wrong (codes "reserve 7 msi 0 0xfff" ∷ [])
    ∷ wrong (codes "endpoint 7" ∷ codes "reserve 7 x 0 0xfff" ∷ [])
    ∷ wrong (codes "endpoint 7" ∷ codes "reserve 7 msi 0 0xffe" ∷ [])
    ∷ wrong (codes "endpoint 7" ∷ codes "reserve 7 msi 0xfff 0" ∷ [])
    ∷ wrong (codes "endpoint 7" ∷ codes "reserve 7 msi 0 0xfff" ∷ codes "reserve 7 reserved 0 0x1fff" ∷ [])
    ∷ wrong (codes "granule 16384" ∷ codes "endpoint 7" ∷ codes "reserve 7 msi 0 0xfff" ∷ [])
    ∷ wrong (codes "endpoint 7" ∷ codes "reserve 7 msi 0 0xfff" ∷ codes "granule 4096" ∷ [])
    ∷ wrong (codes "turns" ∷ [])
    ∷ wrong (codes "turns d0 b7" ∷ [])
    ∷ wrong (codes "turns d8" ∷ [])
    ∷ wrong (codes "turns dev evt d7" ∷ [])
    ∷ wrong (codes "turns b4294967296" ∷ [])
    ∷ wrong (codes "turns x" ∷ []) ∷ []
    ≡ None ∷ at 1 Number ∷ at 2 Again ∷ at 1 Endpoint ∷ at 2 Word ∷ at 2 Span ∷ at 2 Span ∷ at 3 Span ∷ at 3 Span ∷ at 3 Late ∷ at 1 Word ∷ at 1 Endpoint ∷ at 1 Limit ∷ None ∷ at 1 Number ∷ at 1 Word ∷ []
unfolding wrong text_of at script lines_of_text words_of number_of digits_in name_number_of hex_of form_of await_of script_of setup_of judge
endpoints = refl

-- lines of drivers
drivers : wrong (codes "d0 attach 1 7" ∷ codes "memory 1" ∷ [])
    ∷ wrong (codes "d8 attach 1 7" ∷ [])
    ∷ wrong (codes "d00 attach 1 7" ∷ [])
    ∷ wrong (codes "d0 attach 1 after" ∷ [])
    ∷ wrong (codes "d0 attach 1 7 bypass" ∷ [])
    ∷ wrong (codes "d0 attach 1 7 bypass after" ∷ [])
    ∷ wrong (codes "d0 map 1 2 3 after r" ∷ [])
    ∷ wrong (codes "d0 map 1 0 18446744073709551615 0" ∷ [])
    ∷ wrong (codes "d0 map 1 0 1 0 x" ∷ [])
    ∷ wrong (codes "d0 unmap 1 0 1 r" ∷ [])
    ∷ wrong (codes "d0 detach 1 4294967296" ∷ [])
    ∷ wrong (codes "d0 probe 7" ∷ [])
    ∷ wrong (codes "d0 raw - 4" ∷ [])
    ∷ wrong (codes "d0 raw - 0" ∷ [])
    ∷ wrong (codes "d0 raw 0 4" ∷ [])
    ∷ wrong (codes "d0 raw 0 x" ∷ [])
    ∷ wrong (codes "d0 raw 00 1025" ∷ [])
    ∷ wrong (codes "d0 bypass on" ∷ [])
    ∷ wrong (codes "d0 add bypass on" ∷ [])
    ∷ wrong (codes "d0 add add probe 7" ∷ []) ∷ []
    ≡ at 2 Late ∷ at 1 Limit ∷ at 1 Word ∷ at 1 Number ∷ None ∷ at 1 Word ∷ at 1 Number ∷ None ∷ at 1 Word ∷ at 1 Word ∷ at 1 Number ∷ None ∷ None ∷ at 1 Limit ∷ at 1 Hex ∷ at 1 Number ∷ at 1 Limit ∷ None ∷ at 1 Word ∷ at 1 Word ∷ []
unfolding wrong text_of at script lines_of_text words_of number_of digits_in name_number_of hex_of form_of await_of script_of setup_of judge
drivers = refl

-- lines of back ends
backs : wrong (codes "b7 read 0 1" ∷ [])
    ∷ wrong (codes "b4294967296 read 0 1" ∷ [])
    ∷ wrong (codes "endpoint 7" ∷ codes "b7 add read 0 1" ∷ [])
    ∷ wrong (codes "endpoint 7" ∷ codes "b7 read 0 65536" ∷ [])
    ∷ wrong (codes "endpoint 7" ∷ codes "b7 read 0 65537" ∷ [])
    ∷ wrong (codes "endpoint 7" ∷ codes "b7 read 0 0" ∷ [])
    ∷ wrong (codes "endpoint 7" ∷ codes "b7 read 0xffffffffffffffff 1" ∷ [])
    ∷ wrong (codes "endpoint 7" ∷ codes "b7 read 0xffffffffffffffff 2" ∷ [])
    ∷ wrong (codes "endpoint 7" ∷ codes "b7 read 0xffffffffffffffff 65537" ∷ [])
    ∷ wrong (codes "endpoint 7" ∷ codes "b7 write 0 aBc" ∷ [])
    ∷ wrong (codes "endpoint 7" ∷ codes "b7 write x ag" ∷ []) ∷ []
    ≡ at 1 Endpoint ∷ at 1 Number ∷ at 2 Word ∷ None ∷ at 2 Limit ∷ at 2 Limit ∷ None ∷ at 2 Span ∷ at 2 Limit ∷ at 2 Hex ∷ at 2 Number ∷ []
unfolding wrong text_of at script lines_of_text words_of number_of digits_in name_number_of hex_of form_of await_of script_of setup_of judge
backs = refl

-- awaited lines
awaits : wrong (codes "endpoint 7" ∷ codes "d0 probe 7" ∷ codes "b7 read 0 1 after d0.1" ∷ [])
    ∷ wrong (codes "endpoint 7" ∷ codes "d0 probe 7" ∷ codes "b7 read 0 1 after d0.2" ∷ [])
    ∷ wrong (codes "endpoint 7" ∷ codes "b7 read 0 1 after d0.0" ∷ [])
    ∷ wrong (codes "endpoint 7" ∷ codes "b7 read 0 1" ∷ codes "b7 read 0 1 after b7.1" ∷ [])
    ∷ wrong (codes "d0 probe 7 after b8.1" ∷ [])
    ∷ wrong (codes "d0 probe 7 after d8.1" ∷ [])
    ∷ wrong (codes "d0 probe 7 after d1.4294967296" ∷ [])
    ∷ wrong (codes "d0 probe 7 after d8.4294967296" ∷ [])
    ∷ wrong (codes "d0 probe 7 after d1.01" ∷ [])
    ∷ wrong (codes "d0 probe 7 after d1" ∷ [])
    ∷ wrong (codes "d0 probe 7 after" ∷ []) ∷ []
    ≡ None ∷ at 3 After ∷ at 2 After ∷ at 3 After ∷ at 1 After ∷ at 1 Limit ∷ at 1 Number ∷ at 1 Number ∷ at 1 Word ∷ at 1 Word ∷ at 1 Word ∷ []
unfolding wrong text_of at script lines_of_text words_of number_of digits_in name_number_of hex_of form_of await_of script_of setup_of judge
awaits = refl

-- at most 8 calls can be open: eight added lines and a line of another driver, and one batch after another
batches : wrong (codes "d0 add probe 7" ∷ codes "d0 add probe 7" ∷ codes "d0 add probe 7" ∷ codes "d0 add probe 7" ∷ codes "d0 add probe 7" ∷ codes "d0 add probe 7" ∷ codes "d0 add probe 7" ∷ codes "d0 add probe 7" ∷ [])
    ∷ wrong (codes "d0 add probe 7" ∷ codes "d0 add probe 7" ∷ codes "d0 add probe 7" ∷ codes "d0 add probe 7" ∷ codes "d0 add probe 7" ∷ codes "d0 add probe 7" ∷ codes "d0 add probe 7" ∷ codes "d0 add probe 7" ∷ codes "d1 probe 7" ∷ [])
    ∷ wrong (codes "d0 add probe 7" ∷ codes "d0 add probe 7" ∷ codes "d0 add probe 7" ∷ codes "d0 add probe 7" ∷ codes "d0 add probe 7" ∷ codes "d0 add probe 7" ∷ codes "d0 add probe 7" ∷ codes "d0 probe 7" ∷ codes "d0 add probe 7" ∷ [])
    ∷ wrong (codes "d0 add probe 7" ∷ codes "d0 add probe 7" ∷ codes "d0 add probe 7" ∷ codes "d0 add probe 7" ∷ codes "d0 add probe 7" ∷ codes "d0 add probe 7" ∷ codes "d0 add probe 7" ∷ codes "d0 add probe 7" ∷ codes "d0 add probe 7" ∷ [])
    ∷ wrong (codes "d0 probe 7" ∷ codes "d1 probe 7" ∷ codes "d2 probe 7" ∷ codes "d3 probe 7" ∷ codes "d4 probe 7" ∷ codes "d5 probe 7" ∷ codes "d6 probe 7" ∷ codes "d7 probe 7" ∷ codes "d0 add probe 7" ∷ [])
    ∷ wrong (codes "d0 probe 7" ∷ codes "d1 probe 7" ∷ codes "d2 probe 7" ∷ codes "d3 probe 7" ∷ codes "d4 probe 7" ∷ codes "d5 probe 7" ∷ codes "d6 probe 7" ∷ codes "d7 probe 7" ∷ codes "d0 add probe 7" ∷ codes "d0 probe 7" ∷ []) ∷ []
    ≡ None ∷ at 9 Limit ∷ None ∷ at 9 Limit ∷ None ∷ at 10 Limit ∷ []
unfolding wrong text_of at script lines_of_text words_of number_of digits_in name_number_of hex_of form_of await_of script_of setup_of judge
batches = refl

-- a byte that isn't printable, in a comment too, and an empty text
bytes_of_lines : wrong ((35 ∷ 9 ∷ []) ∷ []) ∷ wrong [] ∷ [] ≡ at 1 Byte ∷ None ∷ []
unfolding wrong text_of at script lines_of_text words_of number_of digits_in name_number_of hex_of form_of await_of script_of setup_of judge
bytes_of_lines = refl
