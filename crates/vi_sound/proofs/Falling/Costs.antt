-- What a place may still cost, at each move of its back end.
use Rattle.std.proofs.Common.{◌≡◌, ℕ, zero, suc, ◌+◌, ◌*◌, ◌≤◌, ◌<◌, Bool, true, false, cond, ◌&&◌, ◌||◌, not, List, [], ◌∷◌, take, slice_get, Option, Some, None, refl, arith, ap, subst}
use Rattle.std.specs.Prelude.{nat_lt}
use Rattle.std.proofs.lemmas.Bool.Decides.{nat_tests}
use Rattle.vi_bytes.specs.Leases.{has_page}
use Rattle.vi_bytes.specs.declared.lease.Lease.{Lease}
use Rattle.vi_history.specs.Translation.{permits}
use Rattle.vi_lines.specs.declared.line.Line.{Line}
use Rattle.vi_lines.specs.Calls.{parts_of}
use Rattle.vi_model.specs.Lanes.{Down, Update, Invalidate, count_updates}
use Rattle.vi_model.specs.Caches.{cached_at, apart, put}
use Rattle.vi_model.specs.Serves.{page_of}
use Rattle.vi_model.specs.Backs.{Access, need_of}
use Rattle.vi_model.specs.Asking.{one_if}
use Rattle.vi_model.specs.Bound.{serves, is_cached, brings, is_coming, down_cost, lack, work_from, work_left}

pub lack_most : (b c : Bool) → lack b c ≤ 5
lack_most true c = omega arith
lack_most false true = omega arith
lack_most false false = omega arith

pub or_true : (b : Bool) → (b || true) ≡ true
or_true true = refl
or_true false = refl

pub not_less : (n : ℕ) → nat_lt n n ≡ false
not_less n = grind (arith, nat_tests)

-- what an Update brings is cached
pub brings_cached : (n : ℕ) (o : Option Access) (l : Lease) (cache : List Lease) → 0 < n → brings o l ≡ true → is_cached o (put n l cache) ≡ true
brings_cached zero o l cache h b = absurd (omega (arith, h))
brings_cached (suc n) None l cache h b = refl
brings_cached (suc n) (Some a) l cache h b = go (has_page l (page_of a.part.iova)) b
  where
    go : (e : Bool) → (e && permits (need_of a.work) l.perm) ≡ true → serves a (cond e (Some l) (cached_at (page_of a.part.iova) (take n (apart l cache)))) ≡ true
    go true b = b
    go false b = absurd cc

pub update_lack : (n : ℕ) (busy : Bool) (o : Option Access) (l : Lease) (cache : List Lease) (fs : List Down) → 0 < n
    → lack busy (is_cached o (put n l cache) || is_coming o fs) + 1 ≤ cond (brings o l) 1 6 + lack busy (is_cached o cache || (brings o l || is_coming o fs))
update_lack n busy o l cache fs h = go (brings o l) refl
  where
    go : (b : Bool) → brings o l ≡ b → lack busy (is_cached o (put n l cache) || is_coming o fs) + 1 ≤ cond b 1 6 + lack busy (is_cached o cache || (b || is_coming o fs))
    go true e = covered busy (is_cached o (put n l cache)) (brings_cached n o l cache h e)
      where
        covered : (y c : Bool) → c ≡ true → lack y (c || is_coming o fs) + 1 ≤ 1 + lack y (is_cached o cache || true)
        covered true c q = omega arith
        covered false true q = omega arith
        covered false false q = absurd cc
    go false e = let m = lack_most busy (is_cached o (put n l cache) || is_coming o fs) in omega (arith, m)

-- f: what it awaits is found posted, which it tests only where it isn't ready
pub heard_falls : (r f t u : Bool) → (f ≡ true → r ≡ false) → (t || (u || f)) ≡ true → one_if (not (r || f)) + 1 ≤ one_if (not r) + (one_if t + one_if u)
heard_falls true true t u fresh h = absurd (cc (fresh refl))
heard_falls true false true u fresh h = omega arith
heard_falls true false false true fresh h = omega arith
heard_falls true false false false fresh h = absurd cc
heard_falls false true t u fresh h = omega arith
heard_falls false false true u fresh h = omega arith
heard_falls false false false true fresh h = omega arith
heard_falls false false false false fresh h = absurd cc

pub one_most : (b : Bool) → one_if b ≤ 1
one_most true = omega arith
one_most false = omega arith

-- where no Update is under way, the frames cost as much for any access
pub no_updates : (o p : Option Access) (fs : List Down) → count_updates fs ≤ 0 → down_cost o fs ≡ down_cost p fs
no_updates o p [] h = refl
no_updates o p (Update l ∷ fs) h = absurd (omega (arith, h))
no_updates o p (Invalidate r ∷ fs) h = ap (λ n. 7 + n) (no_updates o p fs h)

pub none_coming : (o : Option Access) (fs : List Down) → count_updates fs ≤ 0 → is_coming o fs ≡ false
none_coming o [] h = refl
none_coming o (Update l ∷ fs) h = absurd (omega (arith, h))
none_coming o (Invalidate r ∷ fs) h = none_coming o fs h

work_suc : (ls : List Line) (n : ℕ) (l : Line) → slice_get ls n ≡ Some l → work_from n ls ≡ 2 + 7 * parts_of l.job + work_from (suc n) ls
work_suc [] n l h = absurd cc
work_suc (x ∷ ls) zero l h = let same : x ≡ l = cc in ap (λ (y : Line). 2 + 7 * parts_of y.job + work_from zero ls) same
work_suc (x ∷ ls) (suc n) l h = work_suc ls n l h

pub work_next : (ls : List Line) (n : ℕ) (l : Line) → slice_get ls n ≡ Some l → work_from n ls ≡ 2 + 7 * parts_of l.job + work_from (n + 1) ls
work_next ls n l h = let e : suc n ≡ n + 1 = omega arith in subst (λ m. work_from n ls ≡ 2 + 7 * parts_of l.job + work_from m ls) e (work_suc ls n l h)

-- the current part is dropped with the rest of its line
pub work_drops : (ls : List Line) (n done : ℕ) (l : Line) → slice_get ls n ≡ Some l → done + 1 ≤ parts_of l.job → work_left ls true n done + 9 ≤ work_left ls false n done
work_drops ls n done l h low = let e = work_next ls n l h in omega (arith, low, e)

-- the current part is done, and it is its line's last, or not
pub work_ends : (ls : List Line) (n done : ℕ) (l : Line) → slice_get ls n ≡ Some l → done + 1 ≤ parts_of l.job → work_left ls false (n + 1) 0 + 9 ≤ work_left ls false n done
work_ends ls n done l h low = let e = work_next ls n l h in omega (arith, low, e)

pub work_falls : (ls : List Line) (n done : ℕ) (l : Line) → slice_get ls n ≡ Some l → done + 1 ≤ parts_of l.job → work_left ls false n (done + 1) + 7 ≤ work_left ls false n done
work_falls ls n done l h low = let e = work_next ls n l h in omega (arith, low, e)
