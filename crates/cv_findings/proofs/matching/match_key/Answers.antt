use Rattle.std.proofs.Common.{◌++◌, arith, sym}
use Rattle.std.specs.List.{flat_map}
use Rattle.std.specs.Option.{option_copied}
use Rattle.std.proofs.lemmas.Option.{slice_get_within}
use Rattle.cv_advdb.specs.Feeds.{listed_under}
use Rattle.cv_findings.specs.code.Lookup.{found_once, tries_once}
use Rattle.cv_findings.proofs.ReadLemmas.{flat_none, flat_read, sum_read}
use Rattle.cv_findings.proofs.matching.match_key.Goals as goal

pub returns-in_err-match_listed-clause-counted : goal.returns-in_err-match_listed-clause-counted
returns-in_err-match_listed-clause-counted g c =
    let records = listed_under c.args.key.now c.args.feeds.now.feeds in
    let read = sum_read (tries_once (option_copied c.args.earlier)) records c.loop-listed.index (c.in-Some.listed.feed.now, c.in-Some.listed.advisory.now) (sym c.in-Some.ensures.value) in
    omega (arith, read, c.match_listed.ensures.counted, c.loop-listed.invariant.1)

pub returns-in_err-index-clause-counted : goal.returns-in_err-index-clause-counted
returns-in_err-index-clause-counted g c =
    let records = listed_under c.args.key.now c.args.feeds.now.feeds in
    let read = sum_read (tries_once (option_copied c.args.earlier)) records c.loop-listed.index (c.in-Some.listed.feed.now, c.in-Some.listed.advisory.now) (sym c.in-Some.ensures.value) in
    omega (arith, read, c.match_listed.ensures.counted, c.loop-listed.invariant.1)

pub loop-listed-smaller : goal.loop-listed-smaller
loop-listed-smaller g c =
    let records = listed_under c.args.key.now c.args.feeds.now.feeds in
    let within = slice_get_within records c.loop-listed.index (c.in-Some.listed.feed.now, c.in-Some.listed.advisory.now) (sym c.in-Some.ensures.value) in
    omega (arith, within, c.in_ok-index.ensures)

pub loop-listed-preserved : goal.loop-listed-preserved
loop-listed-preserved g c =
    let records = listed_under c.args.key.now c.args.feeds.now.feeds in
    let earlier = option_copied c.args.earlier in
    let read = sum_read (tries_once earlier) records c.loop-listed.index (c.in-Some.listed.feed.now, c.in-Some.listed.advisory.now) (sym c.in-Some.ensures.value) in (
      flat_read (found_once earlier c.args.package.now) (c.args.out.now.items ++ flat_map (found_once earlier c.args.package.now) records) c.loop-listed.out.items c.match_listed.new.out.items
          records c.loop-listed.index c.in_ok-index.index (c.in-Some.listed.feed.now, c.in-Some.listed.advisory.now)
          (sym c.in-Some.ensures.value) c.in_ok-index.ensures c.in_ok-match_listed.ensures.found c.loop-listed.invariant.0,
      rw c.in_ok-index.ensures (omega (arith, read, c.match_listed.ensures.counted, c.loop-listed.invariant.1)),
    )

pub returns-clause-found : goal.returns-clause-found
returns-clause-found g c =
    let records = listed_under c.args.key.now c.args.feeds.now.feeds in
    let makes = found_once (option_copied c.args.earlier) c.args.package.now in
    flat_none makes (c.args.out.now.items ++ flat_map makes records) c.loop-listed.out.items records c.loop-listed.index (sym c.in_default.ensures.value) c.loop-listed.invariant.0
