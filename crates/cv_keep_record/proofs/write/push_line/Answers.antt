use Rattle.std.proofs.Common.{ℕ, List, [], ◌∷◌, ◌++◌, length, ap, ◌∙◌, ◌≡◌}
use Rattle.std.specs.Int.{w32, w64, to_be_bytes}
use Rattle.cv_keep_record.proofs.WriteLemmas.{appended}
use Rattle.cv_keep_record.proofs.write.push_line.Goals as goal

pub returns-clause-bytes : goal.returns-clause-bytes
returns-clause-bytes c =
    let x = c.args.bytes.now.items in
    let number = to_be_bytes w64 c.args.number in
    let line = to_be_bytes w64 c.args.line in
    let len = to_be_bytes w32 (length c.args.text.now) in
    let s1 = c.extend_from_slice.new.self.items in
    let s2 = c.extend_from_slice-2.new.self.items in
    let s3 = c.extend_from_slice-3.new.self.items in
    let s4 = c.extend_from_slice-4.new.self.items in
    let s5 = c.extend_from_slice-5.new.self.items in
    let tag = 0 ∷ c.args.lane ∷ [] in
    let e1 : s1 ≡ x ++ number = c.in_ok-extend_from_slice.ensures.items ∙ ap (λ (l : List ℕ). x ++ l) c.to_be_bytes.ensures in
    let e2 = appended x s1 s2 number tag e1 c.in_ok-extend_from_slice-2.ensures.items in
    let e3 = appended x s2 s3 (number ++ tag) line e2 (c.in_ok-extend_from_slice-3.ensures.items ∙ ap (λ (l : List ℕ). s2 ++ l) c.to_be_bytes-2.ensures) in
    let e4 = appended x s3 s4 ((number ++ tag) ++ line) len e3 (c.in_ok-extend_from_slice-4.ensures.items ∙ ap (λ (l : List ℕ). s3 ++ l) c.to_be_bytes-3.ensures) in
    appended x s4 s5 (((number ++ tag) ++ line) ++ len) c.args.text.now e4 c.in_ok-extend_from_slice-5.ensures.items
