-- What a back end sends: a frame doesn't say which part of which line it asks for.
use Rattle.std.specs.Prelude.{ℕ, ◌+◌, ◌-◌, Bool, [], get_or}
use Rattle.vi_bytes.specs.declared.lease.Need.{Need}
use Rattle.vi_bytes.specs.declared.lease.Need.TheVariants.{Read}
use Rattle.vi_model.specs.Lanes.{Miss}
use Rattle.vi_model.specs.Serves.{page_of}
use Rattle.vi_control.specs.declared.transfer.Transfer.{Transfer}
use Rattle.vi_control.specs.Plan.{Plan}

abbrev pub no_transfer : Transfer
no_transfer = record { iova = 0; len = 0; need = Read }

-- what the back end at a place transfers in a line, from 1
abbrev pub transfer_at : Plan → ℕ → ℕ → Transfer
transfer_at plan place line = get_or (get_or plan.transfers place []) (line - 1) no_transfer

-- the part of a transfer that has this address: there is one a page, from 1
abbrev pub part_with : Transfer → ℕ → ℕ
part_with t iova = page_of iova - page_of t.iova + 1

-- the question of the back end at a place about an address of its first line after the posted ones
abbrev pub asked_at : Plan → ℕ → ℕ → ℕ → ℕ → Need → Bool → Miss
asked_at plan place posted iova len need fail = record {
  line = posted + 1;
  part = part_with (transfer_at plan place (posted + 1)) iova;
  iova = iova;
  len = len;
  need = need;
  fail = fail;
}
