use Rattle.std.proofs.Common.{ap, ◌∙◌, string_bytes}
use Rattle.std.proofs.lemmas.Str.{IsUtf8-string_bytes}
use Rattle.serde_json.specs.Written.{compact_text}
use Rattle.cv_sbom.proofs.Floats.{list_has_none}
use Rattle.cv_sbom.proofs.ReadBack.{always, written_back}
use Rattle.cv_sbom.proofs.write.write_list.Goals as goal

pub json_of-requires : goal.json_of-requires
json_of-requires c = rw c.in_ok-value.ensures.value (list_has_none c.args.image.now c.args.packages.now)

pub returns-clause-reads_back : goal.returns-clause-reads_back
returns-clause-reads_back c =
    let same = c.in_ok-json.ensures.text ∙ ap compact_text c.in_ok-value.ensures.value in
    always c.of.result _
    (written_back c.args.image.now c.args.packages.now (string_bytes c.in_ok-json.json) c.digest_bytes-bytes.ensures.count c.digest_bytes-bytes.ensures.bytes
    c.in_ok-value.ensures.paths (IsUtf8-string_bytes c.in_ok-json.json) same)
