-- The input on worked examples.
use Rattle.std.proofs.Common.{◌≡◌, [], ◌∷◌, codes, refl}
use Rattle.std.specs.Prelude.{replicate}
use Rattle.cv_drill.specs.Images.{role_digest, layers}
use Rattle.cv_drill.specs.Lines.{lines_text}
use Rattle.cv_drill.specs.declared.digest.Role.TheVariants.{System, Database, Modules, Opaque, Image}

-- a number in a digest has its most significant byte first
number_bytes : role_digest Image 258 ≡ 255 ∷ 0 ∷ 0 ∷ 1 ∷ 2 ∷ replicate 27 0
number_bytes = refl

-- the layers of the first two images of the script of 7
even_layers : layers 7 0 ≡ role_digest System 7 ∷ role_digest Database 8 ∷ role_digest Modules 9 ∷ []
even_layers = refl

odd_layers : layers 7 1 ≡ role_digest System 8 ∷ role_digest Database 11 ∷ role_digest Modules 16 ∷ role_digest Opaque 8 ∷ role_digest Modules 13 ∷ []
odd_layers = refl

-- an empty line ends a round
lines_end : lines_text (codes "a" ∷ [] ∷ codes "b" ∷ []) ≡ codes "a\n\nb\n"
lines_end = refl
