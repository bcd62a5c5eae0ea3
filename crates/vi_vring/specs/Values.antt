-- What contracts see of a ring.
use Rattle.std.specs.Prelude.{ℕ, List, Option}

-- a chain that the driver added: its readable bytes, and how many bytes its writable part has
pub record Queued : Type 0 where
  pub head : ℕ
  pub readable : List ℕ
  pub writable : ℕ

-- a chain that the device returned: its two lengths, and the bytes that the device wrote
pub record Used : Type 0 where
  pub head : ℕ
  pub read : ℕ
  pub write : ℕ
  pub bytes : List ℕ

-- the chains that are available, oldest first, those that are popped and not pushed, and those that are used and not
-- collected, in the order of the pushes
pub record Lists : Type 0 where
  pub available : List Queued
  pub popped : List Queued
  pub used : List Used

-- A ring of `size` descriptors, with the lengths of its buffers, its bytes, and how many available entries `pop` has
-- handed out or passed over, modulo 2^16. The lists are known as long as nobody else wrote to the area.
pub record RingValue : Type 0 where
  pub size : ℕ
  pub reading : ℕ
  pub writing : ℕ
  pub area : List ℕ
  pub taken : ℕ
  pub lists : Option Lists
