-- When two answers are one.
use Rattle.std.specs.Prelude.{◌==◌, Bool, true, false, ◌&&◌}
use Rattle.std.specs.Str.{bytes_eq}
use Rattle.vi_history.specs.Replies.{Answer}
use Rattle.vi_history.specs.declared.entry.Entry.{Entry}
use Rattle.vi_history.specs.declared.entry.Kind.{Kind}
use Rattle.vi_history.specs.declared.entry.Kind.TheVariants.{Status, Probed, Nothing, Set, Read, Wrote, Fault}

-- two kinds are one
abbrev pub same_kind : Kind → Kind → Bool
same_kind Status Status = true
same_kind Probed Probed = true
same_kind Nothing Nothing = true
same_kind Set Set = true
same_kind Read Read = true
same_kind Wrote Wrote = true
same_kind Fault Fault = true
same_kind a b = false

-- two answers are of one kind, with one status or reason and the same bytes
abbrev pub same_answer : Answer → Answer → Bool
same_answer a b = same_kind a.kind b.kind && ((a.code == b.code) && bytes_eq a.bytes b.bytes)

-- the entry as it would be with this answer
abbrev pub answered : Entry → Answer → Entry
answered h a = record { mark = record h.mark { kind = a.kind; code = a.code }; bytes = a.bytes }
