-- What a device makes of bytes with too little room for the answer.
use Rattle.std.proofs.Common.{◌≡◌, ℕ, ◌<◌, Bool, true, false, cond, nat_lt, List, refl}
use Rattle.std.proofs.lemmas.Bool.{lt-ltb}
use Rattle.vi_bytes.specs.Fields.{byte_at}
use Rattle.vi_history.specs.Requests.{reading, writable_size}
use Rattle.vi_history.specs.declared.reading.Reading.{Reading}
use Rattle.vi_history.specs.declared.reading.Reading.TheVariants.{Silent}

silent : (a b short : Bool) (rest : Reading) → short ≡ true → cond a Silent (cond b Silent (cond short Silent rest)) ≡ Silent
silent true b short rest e = refl
silent false true short rest e = refl
silent false false true rest e = refl
silent false false false rest e = cc

pub reading-short : (read : List ℕ) (write : ℕ) → write < writable_size (byte_at 0 read) → reading read write ≡ Silent
unfolding reading
reading-short read write short =
    silent _ _ (nat_lt write (writable_size (byte_at 0 read))) _ (lt-ltb write (writable_size (byte_at 0 read)) short)
