-- The load script: four drivers, and for each an endpoint and a domain of its own. In every round each driver maps a
-- page, its endpoint writes a number there and reads it again, the driver unmaps the page, and the endpoint reads
-- once more. A caller's lines are counted from 1: a driver has its attach and then two lines a round, an endpoint
-- has three a round.
use Rattle.std.specs.Prelude.{◌≡◌, ◌==◌, ℕ, ◌+◌, ◌*◌, ◌%◌, if◌then◌else◌, List, ◌++◌, codes, decimal, String, string_bytes}
use Rattle.std.specs.Int.{w32, to_be_bytes}
use Rattle.std.specs.List.{flat_map, range_with_len}
use Rattle.std.specs.Global.{Global}
use Rattle.hex.specs.Hex.{encode_lower}

-- the endpoint of a driver, which is its domain too
abbrev pub endpoint_of : ℕ → ℕ
endpoint_of driver = driver + 1

-- the first address of the page that is mapped in a round: seven pages in turn
abbrev pub first_of : ℕ → ℕ
first_of round = 1048576 + 4096 * (round % 7)

-- the last address of that page
abbrev pub last_of : ℕ → ℕ
last_of round = first_of round + 4095

-- the guest physical address that a driver maps there: sixteen pages of memory of its own in turn
abbrev pub target_of : ℕ → ℕ → ℕ
target_of round driver = 4096 * (16 * driver + round % 16)

-- the bytes that are written there: the number of earlier maps of all drivers, in four bytes, the highest first
unfoldable pub written_in : ℕ → ℕ → List ℕ
written_in round driver = to_be_bytes w32 (4 * round + driver)

-- the memory, the queues, the caches, and four endpoints
unfoldable pub setup_lines : List ℕ
setup_lines = codes "memory 64\nqueue 64\ncache 8\nendpoint 1\nendpoint 2\nendpoint 3\nendpoint 4\n"

-- the driver attaches its endpoint
unfoldable pub attach_line : ℕ → List ℕ
attach_line driver =
    codes "d" ++ decimal driver ++ codes " attach " ++ decimal (endpoint_of driver) ++ codes " " ++ decimal (endpoint_of driver) ++ codes "\n"

-- what a driver maps or unmaps: its domain, and the first and the last address of the page
unfoldable pub range_words : ℕ → ℕ → List ℕ
range_words round driver = decimal (endpoint_of driver) ++ codes " " ++ decimal (first_of round) ++ codes " " ++ decimal (last_of round)

-- the end of a map: from the second round on it awaits the endpoint's last line of the round before
abbrev pub map_ending : ℕ → ℕ → List ℕ
map_ending round driver =
    if round == 0 then codes "\n" else codes " after b" ++ decimal (endpoint_of driver) ++ codes "." ++ decimal (3 * round) ++ codes "\n"

-- the driver maps the page, to be read and written
unfoldable pub map_line : ℕ → ℕ → List ℕ
map_line round driver =
    codes "d" ++ decimal driver ++ codes " map " ++ range_words round driver ++ codes " " ++ decimal (target_of round driver) ++ codes " rw" ++ map_ending round driver

-- after the map the endpoint writes the bytes
unfoldable pub write_line : ℕ → ℕ → List ℕ
write_line round driver =
    codes "b" ++ decimal (endpoint_of driver) ++ codes " write " ++ decimal (first_of round) ++ codes " " ++ encode_lower (written_in round driver) ++ codes " after d" ++ decimal driver ++ codes "." ++ decimal (2 * round + 2) ++ codes "\n"

-- the endpoint reads them again
unfoldable pub read_line : ℕ → ℕ → List ℕ
read_line round driver = codes "b" ++ decimal (endpoint_of driver) ++ codes " read " ++ decimal (first_of round) ++ codes " 4\n"

-- after that read the driver unmaps the page
unfoldable pub unmap_line : ℕ → ℕ → List ℕ
unmap_line round driver =
    codes "d" ++ decimal driver ++ codes " unmap " ++ range_words round driver ++ codes " after b" ++ decimal (endpoint_of driver) ++ codes "." ++ decimal (3 * round + 2) ++ codes "\n"

-- after the unmap the endpoint reads once more, which faults
unfoldable pub fault_line : ℕ → ℕ → List ℕ
fault_line round driver =
    codes "b" ++ decimal (endpoint_of driver) ++ codes " read " ++ decimal (first_of round) ++ codes " 4 after d" ++ decimal driver ++ codes "." ++ decimal (2 * round + 3) ++ codes "\n"

-- the five lines of a driver and its endpoint in a round
abbrev pub turn_lines : ℕ → ℕ → List ℕ
turn_lines round driver =
    map_line round driver ++ write_line round driver ++ read_line round driver ++ unmap_line round driver ++ fault_line round driver

-- the lines of a round, driver by driver
unfoldable pub round_lines : ℕ → List ℕ
round_lines round = flat_map (λ driver. turn_lines round driver) (range_with_len 0 4)

-- the load script of so many rounds: the setup, the attaches, and the rounds
unfoldable pub load_script : ℕ → List ℕ
load_script rounds =
    setup_lines ++ flat_map (λ driver. attach_line driver) (range_with_len 0 4) ++ flat_map (λ round. round_lines round) (range_with_len 0 rounds)

-- the new text is the old one with this at its end
abbrev pub Adds : String Global → String Global → List ℕ → Type 0
Adds old new added = string_bytes new ≡ string_bytes old ++ added
