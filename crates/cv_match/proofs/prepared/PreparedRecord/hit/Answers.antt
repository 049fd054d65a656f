use Rattle.std.proofs.Common.{◌∙◌, ap, sym}
use Rattle.cv_base.specs.declared.«package».Package.{Package}
use Rattle.cv_match.specs.Prepared.{Prepared}
use Rattle.cv_match.specs.code.Kinds.{entries_kind, entries_text, version_text}
use Rattle.cv_match.proofs.Meaning.{affects_withdrawn, prepared_answer}
use Rattle.cv_match.proofs.prepared.PreparedRecord.hit.Goals as goal

pub returns-then-self : goal.returns-then-self
returns-then-self c =
    rw (← c.self.view_is) (affects_withdrawn c.self.inside.source.value c.args.«package».now (sym c.self.invariant.0 ∙ c.if-self.true))

pub returns-else-self : goal.returns-else-self
returns-else-self c =
    rw (c.entries_hit.ensures, ← c.self.view_is, ← c.«package».view_is)
    (prepared_answer c.self.inside.source.value c.«package».inside.source.value (entries_kind c.self.inside.entries) (entries_text c.self.inside.entries)
    c.«package».inside.key (version_text c.«package».inside.version)
    (ap (λ (s : Prepared). s.kind) c.self.view_is ∙ (c.requires ∙ sym (ap (λ (p : Package). p.kind) c.«package».view_is)))
    c.self.invariant.1 c.«package».invariant.1 c.«package».invariant.2 (sym c.self.invariant.0 ∙ c.if-self.false))
