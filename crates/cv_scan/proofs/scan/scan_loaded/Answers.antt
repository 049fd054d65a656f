use Rattle.std.proofs.Common.{◌∷◌, [], map, Ok, ap, ◌∙◌, sym, Bor, List}
use Rattle.cv_base.specs.declared.tree.Tree.{Tree}
use Rattle.cv_base.specs.declared.tree.TreeEntry.{TreeEntry}
use Rattle.cv_scan.specs.code.Layers.{tree_in}
use Rattle.cv_scan.proofs.Scans.{layers_bad, layers_good, trees_within}
use Rattle.cv_scan.proofs.scan.scan_loaded.Goals as goal

abbrev entries_of : Bor Tree → List TreeEntry
entries_of tree = tree.now.entries

pub scan_trees-requires : goal.scan_trees-requires
scan_trees-requires c = record {
  at_most_128_layers = trees_within (tree_in c.args.loaded.now) entries_of c.args.layers.now c.deref.result.now (c.in-Ok.ensures ∙ ap (λ ts. Ok (map entries_of ts)) (sym c.deref.ensures.value)) c.requires.at_most_128_layers;
}

pub returns-in-Ok : goal.returns-in-Ok
returns-in-Ok c =
    layers_good (map (tree_in c.args.loaded.now) c.args.layers.now) (map entries_of c.deref.result.now) ((c.args.feed.now, c.args.advisories.now) ∷ []) c.scan_trees.result
    (c.in-Ok.ensures ∙ ap (λ ts. Ok (map entries_of ts)) (sym c.deref.ensures.value)) c.scan_trees.ensures

pub returns-in-Err : goal.returns-in-Err
returns-in-Err c = layers_bad (map (tree_in c.args.loaded.now) c.args.layers.now) ((c.args.feed.now, c.args.advisories.now) ∷ []) c.in-Err.error c.in-Err.ensures
