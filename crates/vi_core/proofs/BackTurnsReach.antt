-- A back end's access is that of its turn.
use Rattle.std.proofs.Common.{◌≡◌, ℕ, List, take, drop, Some, refl, ◌∙◌, ap, sym, subst}
use Rattle.vi_bytes.specs.declared.lease.Lease.{Lease}
use Rattle.vi_lines.specs.declared.line.Who.TheVariants as who
use Rattle.vi_lines.specs.Value.{ScriptValue}
use Rattle.vi_model.specs.Places.{place_of}
use Rattle.vi_model.specs.Backs.{Access, Accesses, wish}
use Rattle.vi_model.specs.Backs as model
use Rattle.vi_model.specs.Actors.{back_actor}
use Rattle.vi_model.specs.Turns.{access_turn, wished_access, from_accessed}
use Rattle.vi_backend.specs.declared.wish.Done.{Done}
use Rattle.vi_backend.specs.Own.{Own, IsOwn, IsBackOf}
use Rattle.vi_backend.specs.Accesses.{own_accessed}
use Rattle.vi_backend.specs.Laws.{WishesAgree, AccessesAgree}
use Rattle.vi_backend.specs.Wishes.{own_wish, shown, IsAccess, IfAccess}
use Rattle.vi_control.specs.Value.{entry_with}
use Rattle.vi_core.specs.BackTurns.{Reached, IsBacksAccess}

-- an access by its own lines is the turn of the script
pub own_access_turn : (s : ScriptValue) (b : Own) (lease : Lease) (a : Access) (page : List ℕ) → IsOwn b → IsBackOf s (place_of s b.id) b → WishesAgree → AccessesAgree → own_wish b ≡ Accesses lease a
    → access_turn s (who.Back b.id) (back_actor b.seat) page ≡ from_accessed (own_accessed b lease a page)
unfolding access_turn
own_access_turn s b lease a page own back wishes accesses h =
    ap (wished_access s (place_of s b.id) (back_actor b.seat) page) (sym (wishes s (place_of s b.id) b own back) ∙ h)
    ∙ ap from_accessed (sym (accesses s (place_of s b.id) b lease a page back))

-- what the access of its wish leaves
pub reaches : (before after : Own) (old new : List ℕ) (done : Done) → IsOwn before → WishesAgree → AccessesAgree → IsAccess (shown (own_wish before))
    → IfAccess (own_wish before) (λ lease a. new ≡ (own_accessed before lease a old).page)
    → IfAccess (own_wish before) (λ lease a. after ≡ record before { seat = (own_accessed before lease a old).seat })
    → IfAccess (own_wish before) (λ lease a. done.mark ≡ (own_accessed before lease a old).entry.mark)
    → IfAccess (own_wish before) (λ lease a. take done.len (drop done.from old) ≡ (own_accessed before lease a old).entry.bytes)
    → IsBacksAccess old new before after done
reaches before after old new done own wishes accesses h p z m y s back = go (own_wish before) refl h p z m y where
  go : (w : model.Wish) → own_wish before ≡ w → IsAccess (shown w)
      → IfAccess w (λ lease a. new ≡ (own_accessed before lease a old).page)
      → IfAccess w (λ lease a. after ≡ record before { seat = (own_accessed before lease a old).seat })
      → IfAccess w (λ lease a. done.mark ≡ (own_accessed before lease a old).entry.mark)
      → IfAccess w (λ lease a. take done.len (drop done.from old) ≡ (own_accessed before lease a old).entry.bytes)
      → Reached (access_turn s (who.Back before.id) (back_actor before.seat) old) old new before after done
  go (Accesses lease a) e h p z m y =
      subst (λ t. Reached t old new before after done) (sym (own_access_turn s before lease a old own back wishes accesses e)) (record {
        page = p;
        back = z;
        entry = ap (λ bytes. Some (entry_with bytes (own_accessed before lease a old).entry.mark)) (sym y) ∙ ap (λ mark. Some (entry_with (take done.len (drop done.from old)) mark)) (sym m);
      })
  go (model.Asks miss) e h p z m y = absurd h
  go (model.Receives tests) e h p z m y = absurd h
  go model.Rests e h p z m y = absurd h
