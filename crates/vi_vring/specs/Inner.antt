-- A ring's fields as contracts see them.
use Rattle.vi_vring.specs.declared.ring.Ring.TheInside.{Inside}
use Rattle.vi_vring.specs.Values.{RingValue}
use Rattle.vi_vring.specs.Tied.{lists_of, lists_unless, IsSound}

abbrev pub seen_as : Inside → RingValue
seen_as r = record {
  size = r.size;
  reading = r.reading;
  writing = r.writing;
  area = r.area.items;
  taken = r.taken;
  lists = lists_unless r.lent (lists_of r.size r.room r.area.items r.notes);
}

abbrev pub IsKept : Inside → Type 0
IsKept r = IsSound r.size r.reading r.writing r.room r.area.items r.taken r.seen r.lent r.notes
