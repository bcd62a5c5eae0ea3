use Rattle.std.proofs.Common.{◌≡◌, ◌<◌, ◌+◌, ℕ, ◌∷◌, take, vec_len, vec_capacity, get_or, false}
use Rattle.std.specs.Mem.Slots.{slots_items, slots_len, slots_filled}
use Rattle.std.specs.Mem.Slots.Ownership.{Filled}
use Rattle.vi_turns.specs.Ended.{page_slots}
use Rattle.vi_turns.proofs.emptied.emptied.Given as goal

abbrev pub invariant-loop-i : goal.invariant-loop-i
invariant-loop-i l = record {
  items : slots_items l.closed.slots ≡ slots_items l.fn.closed.slots;
  len : slots_len l.closed.slots ≡ slots_len l.fn.closed.slots;
  filled : Filled (slots_filled l.closed.slots) l.i (slots_len l.closed.slots);
  out : (k : ℕ) → k < l.i → get_or (slots_filled l.closed.slots) k false ≡ false;
  taken : l.first ∷ page_slots l.room.items ≡ take l.i (slots_items l.fn.closed.slots);
  count : vec_len l.room + 1 ≡ l.i;
  room : vec_capacity l.room ≡ vec_capacity l.fn.room;
}
