-- Bytes that are written over others.
use Rattle.std.specs.Prelude.{ℕ, List, ◌++◌, length, take, drop}

-- the bytes written from this offset on
abbrev pub written : ℕ → List ℕ → List ℕ → List ℕ
written at bytes area = take at area ++ (bytes ++ drop (length bytes) (drop at area))

-- the n bytes from this offset on
abbrev pub bytes_at : ℕ → ℕ → List ℕ → List ℕ
bytes_at at n area = take n (drop at area)
