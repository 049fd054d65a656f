use Rattle.std.proofs.Common.{ℕ, List, [], ◌∷◌, ◌++◌, ap, ◌∙◌, ◌≡◌}
use Rattle.std.specs.Int.{w32, w64, to_be_bytes}
use Rattle.cv_keep_record.specs.Record.{kind_byte}
use Rattle.cv_keep_record.proofs.WriteLemmas.{appended}
use Rattle.cv_keep_record.proofs.write.push_work.Goals as goal

pub returns-clause-bytes : goal.returns-clause-bytes
returns-clause-bytes c =
    let x = c.args.bytes.now.items in
    let number = to_be_bytes w64 c.args.number in
    let worker = to_be_bytes w32 c.args.worker in
    let s1 = c.extend_from_slice.new.self.items in
    let s2 = c.push.new.self.items in
    let s3 = c.extend_from_slice-2.new.self.items in
    let s4 = c.push-2.new.self.items in
    let s5 = c.extend_from_slice-3.new.self.items in
    let e1 : s1 ≡ x ++ number = c.in_ok-extend_from_slice.ensures.items ∙ ap (λ (l : List ℕ). x ++ l) c.to_be_bytes.ensures in
    let e2 = appended x s1 s2 number (1 ∷ []) e1 c.in_ok-push.ensures.items in
    let e3 = appended x s2 s3 (number ++ 1 ∷ []) worker e2 (c.in_ok-extend_from_slice-2.ensures.items ∙ ap (λ (l : List ℕ). s2 ++ l) c.to_be_bytes-2.ensures) in
    let e4 = appended x s3 s4 ((number ++ 1 ∷ []) ++ worker) (kind_byte c.args.kind ∷ []) e3 (c.in_ok-push-2.ensures.items ∙ ap (λ (n : ℕ). s3 ++ n ∷ []) c.kind_byte.ensures) in
    appended x s4 s5 (((number ++ 1 ∷ []) ++ worker) ++ kind_byte c.args.kind ∷ []) c.args.layer.now e4 (c.in_ok-extend_from_slice-3.ensures.items ∙ ap (λ (l : List ℕ). s4 ++ l) c.bytes.ensures)
