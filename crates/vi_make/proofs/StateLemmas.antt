-- What stands above a line of the load script.
use Rattle.std.proofs.Common.{◌≡◌, ◌==◌, ℕ, ◌+◌, ◌^◌, ◌<◌, ◌≤◌, true, false, List, [], ◌∷◌, ◌++◌, length, refl, ap, ◌∙◌, arith}
use Rattle.std.specs.Prelude.{nat_le, nat_lt}
use Rattle.std.specs.List.{list_all, list_any}
use Rattle.std.proofs.lemmas.Bool.{le-leb, le-ltb, agree_below_at}
use Rattle.vi_bytes.specs.declared.region.EndpointSetup.{EndpointSetup}
use Rattle.vi_history.specs.declared.call.Caller.{Caller}
use Rattle.vi_history.specs.declared.call.Caller.TheVariants.{Driver, Back}
use Rattle.vi_history.specs.declared.request.Request.{Request}
use Rattle.vi_lines.specs.declared.job.Job.{Job}
use Rattle.vi_lines.specs.declared.job.Job.TheVariants as job
use Rattle.vi_lines.specs.declared.line.Line.{Line}
use Rattle.vi_lines.specs.declared.line.Await.{Await}
use Rattle.vi_lines.specs.Calls.{same_caller}
use Rattle.vi_lines.specs.Rules.{count_lines, awaits_well}
use Rattle.vi_lines.specs.Limits.{transferred, bytes_in}
use Rattle.vi_script.specs.Said.{Said, declared_endpoint}
use Rattle.vi_script.proofs.TallyLemmas.{bytes_in_push}
use Rattle.vi_make.specs.LoadScript.{endpoint_of}
use Rattle.vi_make.proofs.NameLemmas.{awaits}
use Rattle.vi_make.proofs.JudgeLemmas.{with_line, all_wait, all_wait-more, count_lines-le, count_lines-more, IsModest, HasRoom}
use Rattle.vi_make.proofs.LineLemmas.{asks, transfers}

-- the endpoints 1 to 4
abbrev pub four_endpoints : List EndpointSetup
four_endpoints = declared_endpoint 1 ∷ declared_endpoint 2 ∷ declared_endpoint 3 ∷ declared_endpoint 4 ∷ []

-- these endpoints are declared, each caller waits for each of its lines, and the lines transfer so many bytes
pub record IsReady (said : Said) (bytes : ℕ) : Type 0 where
  pub endpoints : said.endpoints ≡ four_endpoints
  pub wait : all_wait said.lines ≡ true
  pub transferred : bytes_in said.lines ≡ bytes

pub ready-more : (said : Said) (bytes total : ℕ) (l : Line) → IsReady said bytes → l.add ≡ false → bytes + transferred l.job ≡ total → IsReady (with_line said l) total
ready-more said bytes total l ready waits sum =
    record {
      endpoints = ready.endpoints;
      wait = all_wait-more said.lines l ready.wait waits;
      transferred = bytes_in_push said.lines l ∙ (ap (λ n. n + transferred l.job) ready.transferred ∙ sum);
    }

-- a driver and its endpoint have so many lines, or more
pub record HaveLines (lines : List Line) (driver asked answered : ℕ) : Type 0 where
  pub of_driver : asked ≤ count_lines lines (Driver driver)
  pub of_back : answered ≤ count_lines lines (Back (endpoint_of driver))

pub have-more : (lines : List Line) (l : Line) (driver asked answered : ℕ) → HaveLines lines driver asked answered → HaveLines (lines ++ l ∷ []) driver asked answered
have-more lines l driver asked answered have =
    record {
      of_driver = omega (arith, have.of_driver, count_lines-le lines l (Driver driver));
      of_back = omega (arith, have.of_back, count_lines-le lines l (Back (endpoint_of driver)));
    }

pub have-asked : (lines : List Line) (driver asked answered total : ℕ) (request : Request) (awaited : List Await) → HaveLines lines driver asked answered → asked + 1 ≡ total
    → HaveLines (lines ++ asks driver request awaited ∷ []) driver total answered
have-asked lines driver asked answered total request awaited have sum =
    let l = asks driver request awaited in
    record {
      of_driver = omega (arith, have.of_driver, count_lines-more lines l);
      of_back = omega (arith, have.of_back, count_lines-le lines l (Back (endpoint_of driver)));
    }

pub have-answered : (lines : List Line) (driver asked answered total : ℕ) (what : Job) (awaited : List Await) → HaveLines lines driver asked answered → answered + 1 ≡ total
    → HaveLines (lines ++ transfers (endpoint_of driver) what awaited ∷ []) driver asked total
have-answered lines driver asked answered total what awaited have sum =
    let l = transfers (endpoint_of driver) what awaited in
    record {
      of_driver = omega (arith, have.of_driver, count_lines-le lines l (Driver driver));
      of_back = omega (arith, have.of_back, count_lines-more lines l);
    }

-- ---- awaited lines

awaits_one : (lines : List Line) (caller : Caller) (a : Await) → same_caller a.caller caller ≡ false → 1 ≤ a.line → a.line ≤ count_lines lines a.caller
    → list_all (λ a. awaits_well lines caller a) (a ∷ []) ≡ true
awaits_one lines caller a other some there = rw (other, le-leb 1 a.line some, le-leb a.line (count_lines lines a.caller) there) refl

pub awaits_back : (lines : List Line) (driver asked answered line : ℕ) → HaveLines lines driver asked answered → 1 ≤ line → line ≤ answered
    → list_all (λ a. awaits_well lines (Driver driver) a) (awaits (Back (endpoint_of driver)) line ∷ []) ≡ true
awaits_back lines driver asked answered line have some there =
    awaits_one lines (Driver driver) (awaits (Back (endpoint_of driver)) line) refl some (omega (arith, have.of_back))

pub awaits_driver : (lines : List Line) (driver asked answered line : ℕ) → HaveLines lines driver asked answered → 1 ≤ line → line ≤ asked
    → list_all (λ a. awaits_well lines (Back (endpoint_of driver)) a) (awaits (Driver driver) line ∷ []) ≡ true
awaits_driver lines driver asked answered line have some there =
    awaits_one lines (Back (endpoint_of driver)) (awaits (Driver driver) line) refl some (omega (arith, have.of_driver))

-- ---- room for one more line

pub room-driver : (said : Said) (bytes number driver : ℕ) (request : Request) (awaited : List Await) → IsReady said bytes → bytes ≤ 16777216 → number ≤ 10000
    → list_all (λ a. awaits_well said.lines (Driver driver) a) awaited ≡ true → HasRoom said number (asks driver request awaited)
room-driver said bytes number driver request awaited ready fits few waits =
    record { wait = ready.wait; bytes = omega (arith, ready.transferred); few = few; declared = refl; awaits = waits }

declared_back : (driver : ℕ) → driver < 4 → list_any (λ e. e.id == driver + 1) four_endpoints ≡ true
declared_back driver below = agree_below_at (λ d. list_any (λ (e : EndpointSetup). e.id == d + 1) four_endpoints) (λ d. true) 4 driver refl below

pub room-back : (said : Said) (bytes number driver : ℕ) (what : Job) (awaited : List Await) → IsReady said bytes → bytes + transferred what ≤ 16777216 → number ≤ 10000 → driver < 4
    → list_all (λ a. awaits_well said.lines (Back (endpoint_of driver)) a) awaited ≡ true → HasRoom said number (transfers (endpoint_of driver) what awaited)
room-back said bytes number driver what awaited ready fits few below waits =
    record {
      wait = ready.wait;
      bytes = omega (arith, ready.transferred);
      few = few;
      declared = ap (λ es. list_any (λ (e : EndpointSetup). e.id == driver + 1) es) ready.endpoints ∙ declared_back driver below;
      awaits = waits;
    }

-- ---- lines within their limits

pub modest-asks : (driver : ℕ) (request : Request) → driver < 4 → IsModest (asks driver request [])
modest-asks driver request below =
    record { driver = le-leb driver 7 (omega arith); awaits_drivers = refl; job = refl; few_awaits = refl; waits = refl; span = refl }

pub modest-asks_after : (driver : ℕ) (request : Request) (endpoint line : ℕ) → driver < 4 → IsModest (asks driver request (awaits (Back endpoint) line ∷ []))
modest-asks_after driver request endpoint line below =
    record { driver = le-leb driver 7 (omega arith); awaits_drivers = refl; job = refl; few_awaits = refl; waits = refl; span = refl }

within : (first : ℕ) → first + 4 ≤ 2 ^ 64 → nat_lt (2 ^ 64) (first + 4) ≡ false
within first fits = le-ltb (2 ^ 64) (first + 4) fits

await_small : (driver : ℕ) → driver < 4 → nat_le driver 7 ≡ true
await_small driver below = le-leb driver 7 (omega arith)

pub modest-read : (endpoint first : ℕ) → first + 4 ≤ 2 ^ 64 → IsModest (transfers endpoint (job.Read first 4) [])
modest-read endpoint first fits =
    record { driver = refl; awaits_drivers = refl; job = refl; few_awaits = refl; waits = refl; span = rw (within first fits) refl }

pub modest-read_after : (endpoint first driver line : ℕ) → first + 4 ≤ 2 ^ 64 → driver < 4 → IsModest (transfers endpoint (job.Read first 4) (awaits (Driver driver) line ∷ []))
modest-read_after endpoint first driver line fits below =
    record { driver = refl; awaits_drivers = rw (await_small driver below) refl; job = refl; few_awaits = refl; waits = refl; span = rw (within first fits) refl }

pub modest-write : (endpoint first : ℕ) (bytes : List ℕ) (driver line : ℕ) → length bytes ≡ 4 → first + 4 ≤ 2 ^ 64 → driver < 4
    → IsModest (transfers endpoint (job.Write first bytes) (awaits (Driver driver) line ∷ []))
modest-write endpoint first bytes driver line four fits below =
    record { driver = refl; awaits_drivers = rw (await_small driver below) refl; job = rw four refl; few_awaits = refl; waits = refl; span = rw (four, within first fits) refl }

-- fewer lines are there too
pub have-fewer : (lines : List Line) (driver asked answered fewer_asked fewer_answered : ℕ) → HaveLines lines driver asked answered → fewer_asked ≤ asked → fewer_answered ≤ answered
    → HaveLines lines driver fewer_asked fewer_answered
have-fewer lines driver asked answered fewer_asked fewer_answered have less_asked less_answered =
    record { of_driver = omega (arith, have.of_driver); of_back = omega (arith, have.of_back) }
