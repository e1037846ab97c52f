-- One more buffer is named.
use Rattle.std.proofs.Common.{◌≡◌, ℕ, ◌&&◌, ◌||◌, ◌∙◌, Bool, true, false, cond, eqb, List, [], ◌∷◌, ◌++◌, refl, sym}
use Rattle.std.specs.List.{list_any}
use Rattle.std.proofs.lemmas.List.Folds.{list_any-append}
use Rattle.std.specs.Ordering.{nat_cmp, ordering_then, is_eq}
use Rattle.spv_setup.specs.declared.settings.Buffer.{Buffer}
use Rattle.spv_base.proofs.Exports.{is_eq-pair}

put_at : (test old : Bool) → cond test true old ≡ (old || (test || false))
put_at true true = refl
put_at true false = refl
put_at false true = refl
put_at false false = refl

pub one_more : (bs : List Buffer) (b : Buffer) (set binding : ℕ) (new old : Bool)
    → new ≡ cond (is_eq (ordering_then (nat_cmp b.set set) (nat_cmp b.binding binding))) true old
    → old ≡ list_any (λ c. eqb c.set set && eqb c.binding binding) bs
    → new ≡ list_any (λ c. eqb c.set set && eqb c.binding binding) (bs ++ b ∷ [])
one_more bs b set binding new old is before =
    let test : new ≡ cond (eqb b.set set && eqb b.binding binding) true old = rw is_eq-pair at is in
    test ∙ put_at (eqb b.set set && eqb b.binding binding) old ∙ rw before refl ∙ sym (list_any-append (λ c. eqb c.set set && eqb c.binding binding) bs (b ∷ []))
