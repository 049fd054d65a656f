use Rattle.std.proofs.Common.{◌≡◌, ◌∷◌, ◌++◌, refl, sym, ap, ◌∙◌}
use Rattle.cv_base.specs.Path.{components}
use Rattle.cv_overlay.proofs.CoverLemmas.{empty_text, some_text}
use Rattle.cv_overlay.proofs.TextLemmas.{parent_needed, stands_in, stands_in_none}
use Rattle.cv_overlay.proofs.check.stands_by_parent.Goals as goal

pub returns-in_default-before : goal.returns-in_default-before
returns-in_default-before g c =
    let parts : components (c.in-Some.directory.now ++ 47 ∷ c.in-Some.field-0-1.now) ≡ (g.E.Outlined.outline c.args.entry.now).path =
    ap components (sym c.in-Some.ensures.parts ∙ c.as_bytes.ensures.value) ∙ c.text.ensures.parts ∙ c.path.ensures in
    let needed = parent_needed c.in-Some.directory.now c.in-Some.field-0-1.now c.in-Some.ensures.last in
    rw (c.in_default-before.is, ← parts, needed) refl

pub returns-then-is_empty : goal.returns-then-is_empty
returns-then-is_empty g c =
    let parts : components (c.in-Some.directory.now ++ 47 ∷ c.in-Some.field-0-1.now) ≡ (g.E.Outlined.outline c.args.entry.now).path =
    ap components (sym c.in-Some.ensures.parts ∙ c.as_bytes.ensures.value) ∙ c.text.ensures.parts ∙ c.path.ensures in
    let before : components c.as_bytes-text.result.now ≡ (g.E.Outlined.outline c.in-Some-before.before.now).path =
    ap components c.as_bytes-text.ensures.value ∙ c.text-2.ensures.parts ∙ c.path-2.ensures in
    let needed = parent_needed c.in-Some.directory.now c.in-Some.field-0-1.now c.in-Some.ensures.last in
    rw (c.in-Some-before.is, ← parts, ← before, needed)
    (stands_in_none c.in-Some.directory.now c.in-Some.field-0-1.now c.as_bytes-text.result.now (g.E.Outlined.outline c.in-Some-before.before.now).is_dir
    c.in-Some.ensures.last (empty_text c.as_bytes-text.result.now c.is_empty.result c.is_empty.ensures c.if-is_empty.true))

pub returns : goal.returns
returns g c =
    let parts : components (c.in-Some.directory.now ++ 47 ∷ c.in-Some.field-0-1.now) ≡ (g.E.Outlined.outline c.args.entry.now).path =
    ap components (sym c.in-Some.ensures.parts ∙ c.as_bytes.ensures.value) ∙ c.text.ensures.parts ∙ c.path.ensures in
    let before : components c.as_bytes-text.result.now ≡ (g.E.Outlined.outline c.in-Some-before.before.now).path =
    ap components c.as_bytes-text.ensures.value ∙ c.text-2.ensures.parts ∙ c.path-2.ensures in
    let needed = parent_needed c.in-Some.directory.now c.in-Some.field-0-1.now c.in-Some.ensures.last in
    rw (c.is_within.ensures, c.is_dir.ensures, c.in-Some-before.is, ← parts, ← before, needed)
    (stands_in c.in-Some.directory.now c.in-Some.field-0-1.now c.as_bytes-text.result.now (g.E.Outlined.outline c.in-Some-before.before.now).is_dir
    c.in-Some.ensures.last (some_text c.as_bytes-text.result.now c.is_empty.result c.is_empty.ensures c.if-is_empty.false))
