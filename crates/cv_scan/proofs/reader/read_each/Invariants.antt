use Rattle.std.proofs.Common.{◌≡◌, ◌+◌, ◌≤◌, map, take}
use Rattle.std.specs.List.{AllByRecursion}
use Rattle.cv_scan.proofs.reader.read_each.Given as goal

-- the layers so far were read, each with one listing
abbrev pub invariant-loop-layer : goal.invariant-loop-layer
invariant-loop-layer g l = record {
  layers : map g.R.LayerReader.digest l.made.items ≡ take l.layer-index l.layers;
  right : AllByRecursion g.R.LayerReader.right l.made.items;
  counted : g.D.Desk.listings l.desk ≡ g.D.Desk.listings l.initial.desk + l.layer-index;
  later : g.D.Desk.faults l.initial.desk ≤ g.D.Desk.faults l.desk;
}
