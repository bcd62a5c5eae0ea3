-- The state before the first call.
use Rattle.std.proofs.Common.{◌≡◌, ℕ, ◌^◌, ◌<◌, List, [], ◌∷◌, map, refl, arith, ap}
use Rattle.std.proofs.lemmas.List.{length-map}
use Rattle.vi_bytes.specs.declared.region.EndpointSetup.{EndpointSetup}
use Rattle.vi_history.specs.Start.{unattached, start_dev}
use Rattle.vi_history.specs.declared.setup.Setup.{Setup}
use Rattle.vi_state.specs.Followed.{IsFollowedSetup}
use Rattle.vi_state.specs.Kept.{IsState}

declared_ids : (es : List EndpointSetup) → map (λ e. e.id) es ≡ map (λ x. x.id) (map (λ e. unattached e) es)
declared_ids [] = refl
declared_ids (e ∷ es) = ap (λ ns. e.id ∷ ns) (declared_ids es)

pub start_state : (s : Setup) (maps : ℕ) → IsFollowedSetup s → s.memory < 2 ^ 32 → IsState (record { dev = start_dev s; maps = maps }) (map (λ e. e.id) s.endpoints) s.memory maps
start_state s maps ok fits = record {
  kept = record { granule = ok.granule; room = omega arith; domains = tt };
  ids = declared_ids s.endpoints;
  few = omega (arith, length-map s.endpoints (λ e. e.id), ok.setup.few);
  pages = refl;
  fits = fits;
}
