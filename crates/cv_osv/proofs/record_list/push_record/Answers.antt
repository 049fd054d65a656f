-- A new id has its index in the map, and no other record has it.
use Rattle.std.specs.Prelude.{◌≡◌, length, None}
use Rattle.std.specs.BTreeMap.{get}
use Rattle.std.specs.Cmp.Lexicographic.{slice_cmp}
use Rattle.std.specs.Ordering.{nat_cmp}
use Rattle.std.proofs.Common.{◌∙◌, sym, rules}
use Rattle.cv_osv.proofs.Indices.{distinct_more, indexes_more}
use Rattle.cv_osv.specs.code.Appended.{IsIndexed}
use Rattle.cv_osv.proofs.record_list.push_record.Goals as goal

-- no record had the id
fresh : (c : goal.In_ok-push) → get (slice_cmp nat_cmp) c.args.indices.now c.in_ok-record.record.id ≡ None
fresh c = sym c.in_ok-first.ensures.old ∙ c.in_default.is

pub returns-clause-indexed : goal.returns-clause-indexed
returns-clause-indexed c =
    let index : c.len-index.result ≡ length c.args.records.now.items = search rules in
    let updated : IsIndexed c.args.indices.now c.replace_index.new.indices c.in_ok-record.record.id (length c.args.records.now.items) = rw (← index) c.in_ok-first.ensures.new in
    rw c.in_ok-push.ensures (indexes_more c.args.indices.now c.replace_index.new.indices c.args.records.now.items c.in_ok-record.record c.requires.indexed (fresh c) updated)

pub returns-clause-distinct : goal.returns-clause-distinct
returns-clause-distinct c =
    rw c.in_ok-push.ensures (distinct_more 0 c.args.records.now.items c.in_ok-record.record c.requires.distinct (sym (c.requires.indexed c.in_ok-record.record.id) ∙ fresh c))
