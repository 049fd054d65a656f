-- What the scan of a list of components printed.
use Rattle.std.proofs.Common.{◌≡◌, ℕ, List, refl, ◌∙◌, ap, sym, subst, inl, inr}
use Rattle.std.specs.Prelude.{Option, string_bytes}
use Rattle.cv_base.specs.declared.advisory.Advisory.{Advisory}
use Rattle.cv_sbom.specs.declared.list.ComponentList.{ComponentList}
use Rattle.cv_command.specs.List.{SaysList, UsesNoDesk, list_printed}
use Rattle.cv_command.specs.Printed.{IsPrinted, Printed}
use Rattle.cv_command.specs.World.{Counts}
use Rattle.cv_command.specs.code.Printing.{ListPrinted, OutcomePrinted, printed_of}
use Rattle.cv_command.specs.declared.scanning.Answer.{Answer}
use Rattle.cv_command.specs.declared.status.Status.{Status}
use Rattle.cv_command.specs.declared.status.Status.TheVariants as status

-- as the outcome of a whole input: no desk counts anything
pub list_outcome : (list : ComponentList) (records : List Advisory) (counts : Counts) (before now : Option (List ℕ)) (ended : Status) → ListPrinted list records before now ended
    → OutcomePrinted SaysList UsesNoDesk list records counts counts before now ended
list_outcome list records counts before now ended (inl without) = inl (without, refl)
list_outcome list records counts before now ended (inr p) = inr (list_printed list records, (refl, refl), p)

-- a line that was made was printed
pub answer_printed : (answer : Answer) (line : Printed) (text : List ℕ) (before now : Option (List ℕ)) (ended : Status) → printed_of answer ≡ line → text ≡ string_bytes answer.text
    → IsPrinted (record { text = text; ended = answer.ended }) before now ended → IsPrinted line before now ended
answer_printed answer line text before now ended made e p =
    subst (λ l. IsPrinted l before now ended) made (subst (λ t. IsPrinted (record { text = t; ended = answer.ended }) before now ended) e p)

done : status.Done ≡ status.DeskFault → ⊥
done h = cc

-- and it does not say that a desk failed
pub never_desk : (answer : Answer) (list : ComponentList) (records : List Advisory) (text : List ℕ) (before now : Option (List ℕ)) (ended : Status) → printed_of answer ≡ list_printed list records
    → IsPrinted (record { text = text; ended = answer.ended }) before now ended → ended ≡ status.DeskFault → ⊥
never_desk answer list records text before now ended made p e =
    let at : answer.ended ≡ status.DeskFault = (subst (λ s. IsPrinted (record { text = text; ended = answer.ended }) before now s) e p).0 in
    done (sym (ap (λ (l : Printed). l.ended) made) ∙ at)
