use Rattle.std.proofs.Common.{◌≡◌, [], ◌∷◌, ◌++◌, map, ap, ◌∙◌}
use Rattle.std.proofs.lemmas.List.{map-append}
use Rattle.cv_desk.specs.Stored.{Stored}
use Rattle.cv_desk.specs.Table.{item_of}
use Rattle.cv_desk.specs.code.TableRow.{stored_of}
use Rattle.cv_desk.proofs.PathSets.{HasOneMore, paths_more}
use Rattle.cv_desk.proofs.table.add_entry.Goals as goal

pub returns-clause-paths : goal.returns-clause-paths
returns-clause-paths c =
    let entry : Stored = record { path = c.args.path; item = item_of c.args.row.now.kind c.args.row.now.bytes.now } in
    let key : c.in_ok-clone.field-0 ≡ c.args.path = c.in_ok-clone.ensures.cases in
    let more : HasOneMore c.args.paths.now c.insert.new.self c.args.path = λ q. rw (← key) (c.in_ok-insert.ensures.updates.0 q) in
    let items : map stored_of c.push.new.self.items ≡ map stored_of c.args.out.now.items ++ entry ∷ [] =
    ap (map stored_of) c.in_ok-push.ensures.items ∙ map-append stored_of c.args.out.now.items (record { path = c.args.path; kind = c.args.row.now.kind; bytes = c.args.row.now.bytes } ∷ []) in
    rw items (paths_more c.args.paths.now c.insert.new.self (map stored_of c.args.out.now.items) entry c.requires more)
