-- What undoing leads to: an event more, and an event less.
use Rattle.std.proofs.Common.{◌≡◌, ℕ, zero, suc, ◌-◌, ◌≤◌, List, [], ◌∷◌, length, take, refl, sym, ap, ◌∙◌, arith, Some, get_or}
use Rattle.std.specs.Prelude.{slice_get, slice_index, option_map}
use Rattle.std.proofs.lemmas.Option.{slice_get_within, slice_get-get_or}
use Rattle.spv_journal.specs.Events.{Event, fitting}
use Rattle.spv_journal.specs.Undo.{Moment, before, past}
use Rattle.spv_state.specs.Program.{Program}
use Rattle.spv_state.specs.State.{State}
use Rattle.spv_machine.specs.Step.{step_of}
use Rattle.spv_group.specs.History.{moment_at, moments_below}
use Rattle.spv_group.specs.Run.{run, happening_in, happening_at}
use Rattle.spv_group.proofs.WindowLemmas.{fitting_take}

-- ---- lists

pub past_take : (k : ℕ) (vs : List Event) (s : State) → past (take k vs) s ≡ take k (past vs s)
past_take zero vs s = refl
past_take (suc k) [] s = refl
past_take (suc k) (v ∷ vs) s = ap (λ (ms : List Moment). record { happening = v.happening; state = before v s } ∷ ms) (past_take k vs (before v s))

pub take_take : {A : Type 0} (j k : ℕ) (xs : List A) → j ≤ k → take j (take k xs) ≡ take j xs
take_take zero k xs h = refl
take_take (suc j) zero xs h = absurd (omega arith)
take_take (suc j) (suc k) [] h = refl
take_take (suc j) (suc k) (x ∷ xs) h = ap (λ ys. x ∷ ys) (take_take j k xs (omega arith))

-- what is kept leads back to the newest of what all leads back to
pub past_fitting : (room : ℕ) (vs : List Event) (s : State) → past (fitting room vs) s ≡ take (length (fitting room vs)) (past vs s)
past_fitting room vs s = ap (λ (us : List Event). past us s) (fitting_take room vs) ∙ past_take (length (fitting room vs)) vs s

-- ---- moments

-- the event of an entry is that of the moment there
pub happening_is : (p : Program) (es : List ℕ) (n i : ℕ) → Some i ≡ slice_get es n → happening_at p es n ≡ Some (moment_at p es n).happening
happening_is p es n i e =
    let l = slice_get_within es n i (sym e) in
    ap (option_map (λ j. happening_in (step_of p (run p es n) j) j)) (slice_get-get_or es n 0 l)

pub entry_is : (es : List ℕ) (n i : ℕ) → Some i ≡ slice_get es n → slice_index es n ≡ i
entry_is es n i e =
    let l = slice_get_within es n i (sym e) in
    let at : slice_get es n ≡ Some (get_or es n 0) = slice_get-get_or es n 0 l in
    cc

-- ---- one event more

-- an event that leads back to a state, before the events that lead back from there
pub past_more : (v : Event) (vs : List Event) (s t : State) (m : Moment) (ms : List Moment) → v.happening ≡ m.happening → before v t ≡ s → s ≡ m.state → past vs s ≡ ms
    → past (v ∷ vs) t ≡ m ∷ ms
past_more v vs s t m ms happened leads is same =
    (λ j. record { happening = happened j; state = (leads ∙ is) j } ∷ past vs (leads j)) ∙ ap (λ (rest : List Moment). m ∷ rest) same

pub fitting_more : (p : Program) (es : List ℕ) (n limit : ℕ) (v : Event) (vs : List Event) (s t : State) → v.happening ≡ (moment_at p es n).happening → before v t ≡ s
    → s ≡ run p es n → past vs s ≡ take (length vs) (moments_below p es n) → length (fitting limit (v ∷ vs)) ≤ suc (length vs)
    → past (fitting limit (v ∷ vs)) t ≡ take (length (fitting limit (v ∷ vs))) (moments_below p es (suc n))
fitting_more p es n limit v vs s t happened leads is same shorter =
    past_fitting limit (v ∷ vs) t
    ∙ ap (take (length (fitting limit (v ∷ vs)))) (past_more v vs s t (moment_at p es n) (take (length vs) (moments_below p es n)) happened leads is same)
    ∙ take_take (length (fitting limit (v ∷ vs))) (suc (length vs)) (moments_below p es (suc n)) shorter

-- ---- one event less

pub front_is : {A : Type 0} (x y : A) (xs ys : List A) → x ∷ xs ≡ y ∷ ys → (x ≡ y) × (xs ≡ ys)
front_is x y xs ys e = (cc, cc)

pub past_less : (p : Program) (es : List ℕ) (n count : ℕ) (m : Moment) (ms : List Moment) → m ∷ ms ≡ take (suc count) (moments_below p es (suc n))
    → (m ≡ moment_at p es n) × (ms ≡ take count (moments_below p es n))
past_less p es n count m ms e = front_is m (moment_at p es n) ms (take count (moments_below p es n)) e
