-- The line of an offer has no tag.
use Rattle.std.specs.Prelude.{◌≡◌, ◌≤◌, Some, None, option_and_then, refl}
use Rattle.std.proofs.Common.{ap, arith, subst, ◌∙◌}
use Rattle.serde_json.specs.Data.{Data, depth}
use Rattle.serde_json.specs.Read.{max_depth, read}
use Rattle.serde_json.specs.Written.{compact_text}
use Rattle.cv_hook.specs.declared.offer.HookLine.{HookLine}
use Rattle.cv_transcript.specs.Tag.{tag_of}
use Rattle.cv_serve_pushed.specs.HookText.{HasNoTag, hook_data, hook_json}

-- it has no member by which an entry is known
no_tag : (line : HookLine) → tag_of (hook_data line) ≡ None
no_tag line = refl

shallow : (line : HookLine) → depth (hook_data line) ≤ max_depth
shallow line = let one : depth (hook_data line) ≡ 1 = refl in omega (arith, one)

-- so a reader takes none, if serde_json reads back what it wrote
pub untagged_read : (d : Data) (line : HookLine) → d ≡ hook_data line → (depth d ≤ max_depth → read (compact_text d) ≡ Some d) → HasNoTag line
unfolding hook_json
untagged_read d line h again =
    let back = subst (λ (x : Data). depth x ≤ max_depth → read (compact_text x) ≡ Some x) h again in
    ap (option_and_then tag_of) (back (shallow line)) ∙ no_tag line
