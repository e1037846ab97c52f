-- Rows whose number of words is wrong.
use Rattle.std.proofs.Common.{◌≡◌, ◌≢◌, ℕ, ◌<◌, List, [], ◌∷◌, length, Err, None, refl, ap, arith}
use Rattle.spv_setup.specs.declared.line.LineFault.TheVariants.{Words}
use Rattle.spv_setup.specs.declared.line.Version.TheVariants.{Two}
use Rattle.spv_setup.specs.Settings.{version_of}
use Rattle.spv_setup.specs.Rows.{entry_row, group_row, spec_row, zero_row, buffer_row, move_row, rounds_row, barrier_row}

pub not_two : (words rest : List (List ℕ)) (first : List ℕ) → words ≡ first ∷ rest → ((word : List ℕ) → rest ≢ word ∷ []) → length words ≢ 2
not_two words [] first e h k = absurd (omega (arith, k, ap length e))
not_two words (second ∷ []) first e h k = h second refl
not_two words (second ∷ third ∷ rest) first e h k = absurd (omega (arith, k, ap length e))

pub no_entry : (words : List (List ℕ)) → ((word : List ℕ) → words ≢ word ∷ []) → entry_row words ≡ Err Words
no_entry [] h = refl
no_entry (name ∷ []) h = absurd (h name refl)
no_entry (name ∷ more ∷ words) h = refl

pub no_rounds : (words : List (List ℕ)) → ((word : List ℕ) → words ≢ word ∷ []) → rounds_row words ≡ Err Words
no_rounds [] h = refl
no_rounds (count ∷ []) h = absurd (h count refl)
no_rounds (count ∷ more ∷ words) h = refl

pub no_zero : (set binding : List ℕ) (words : List (List ℕ)) → ((word : List ℕ) → words ≢ word ∷ []) → zero_row set binding words ≡ Err Words
no_zero set binding [] h = refl
no_zero set binding (count ∷ []) h = absurd (h count refl)
no_zero set binding (count ∷ more ∷ words) h = refl

pub no_spec : (words : List (List ℕ)) → length words ≢ 2 → spec_row words ≡ Err Words
no_spec [] h = refl
no_spec (id ∷ []) h = refl
no_spec (id ∷ it ∷ []) h = absurd (h (omega arith))
no_spec (id ∷ it ∷ more ∷ words) h = refl

pub no_move : (words : List (List ℕ)) → length words ≢ 2 → move_row words ≡ Err Words
no_move [] h = refl
no_move (invocation ∷ []) h = refl
no_move (invocation ∷ count ∷ []) h = absurd (h (omega arith))
no_move (invocation ∷ count ∷ more ∷ words) h = refl

pub no_buffer : (words : List (List ℕ)) → length words < 3 → buffer_row words ≡ Err Words
no_buffer [] h = refl
no_buffer (set ∷ []) h = refl
no_buffer (set ∷ binding ∷ []) h = refl
no_buffer (set ∷ binding ∷ kind ∷ words) h = absurd (omega (arith, h))

pub no_group : (words : List (List ℕ)) → length words ≢ 7 → group_row words ≡ Err Words
no_group [] h = refl
no_group (a ∷ []) h = refl
no_group (a ∷ b ∷ []) h = refl
no_group (a ∷ b ∷ c ∷ []) h = refl
no_group (a ∷ b ∷ c ∷ d ∷ []) h = refl
no_group (a ∷ b ∷ c ∷ d ∷ e ∷ []) h = refl
no_group (a ∷ b ∷ c ∷ d ∷ e ∷ f ∷ []) h = refl
no_group (a ∷ b ∷ c ∷ d ∷ e ∷ f ∷ g ∷ []) h = absurd (h (omega arith))
no_group (a ∷ b ∷ c ∷ d ∷ e ∷ f ∷ g ∷ more ∷ words) h = refl

pub no_barrier : (words : List (List ℕ)) → ((word : List ℕ) → words ≢ word ∷ []) → barrier_row Two words ≡ Err Words
no_barrier [] h = refl
no_barrier (kind ∷ []) h = absurd (h kind refl)
no_barrier (kind ∷ more ∷ words) h = refl

pub no_version : (words : List (List ℕ)) → length words ≢ 2 → version_of words ≡ None
no_version [] h = refl
no_version (name ∷ []) h = refl
no_version (name ∷ version ∷ []) h = absurd (h (omega arith))
no_version (name ∷ version ∷ more ∷ words) h = refl
