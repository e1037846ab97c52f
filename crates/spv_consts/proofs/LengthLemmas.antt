-- The length of an array changes what only types from that array on count as.
use Rattle.std.proofs.Common.{◌≡◌, ◌≢◌, ◌∙◌, ℕ, zero, suc, ◌<◌, ◌≤◌, ◌==◌, Bool, true, false, List, [], ◌∷◌, length, Option, Some, None, pos, negsuc, ◌-◌, ◌*◌, ◌^◌, refl, sym, ap, arith}
use Rattle.std.proofs.Math.Path.{fun_ext}
use Rattle.std.specs.Prelude.{int_le, nat_le, nat_lt, ◌&&◌, if◌then◌else◌}
use Rattle.std.specs.Option.{option_map, option_map_or}
use Rattle.spv_base.specs.Cell.{Cell}
use Rattle.spv_base.specs.Entries.{writes}
use Rattle.spv_base.specs.Options.{holds}
use Rattle.spv_types.specs.declared.forms.Form.{Form}
use Rattle.spv_types.specs.declared.limits.Limit.{Limit}
use Rattle.spv_types.specs.Types.{Types, form_at, form_of, in_first, lengthened, number_of, with_length}
use Rattle.spv_types.specs.Laws.{IsAmong}
use Rattle.spv_types.proofs.Exports.{in_first-found, number_lt, number_written, form_written}
use Rattle.spv_types.specs.Limits.{AreLimits, limit_among, limit_step, no_limit}
use Rattle.std.proofs.lemmas.Bool.{eqb-true}
use Rattle.spv_base.proofs.Exports.{holds_is}
use Rattle.spv_alu.specs.Integers.{signed}
use Rattle.spv_consts.specs.Lengths.{number_in}

-- ---- a form written under an id

at_written : (ts : Types) (id n m : ℕ) (f : Form) → number_of ts id ≡ Some n → m < n → form_at (writes id f ts) m ≡ form_at ts m
at_written [] id n m f h l = cc
at_written (t ∷ ts) id n m f h l = step (t.0 == id) (number_of ts id) m n h l (λ k j g p. at_written ts id k j f g p)
  where
    step : (b : Bool) (o : Option ℕ) (m n : ℕ) → (if b then Some 0 else option_map suc o) ≡ Some n → m < n → ((k j : ℕ) → o ≡ Some k → j < k → form_at (writes id f ts) j ≡ form_at ts j)
        → form_at (if b then (t.0, f) ∷ ts else t ∷ writes id f ts) m ≡ form_at (t ∷ ts) m
    step true o m n h l ih = let e : 0 ≡ n = cc in absurd (omega arith)
    step false None m n h l ih = cc
    step false (Some k) zero n h l ih = refl
    step false (Some k) (suc m) n h l ih = let e : suc k ≡ n = cc in ih k m refl (omega arith)

-- ---- what the types before it give

-- any two numbers of types above a type's own give it one thing
in_first-reached : {A : Type 0} (none : A) (step : (ℕ → A) → Form → A) (ts : Types) (n m k id : ℕ) → number_of ts id ≡ Some k → k < n → k < m → in_first none step ts n id ≡ in_first none step ts m id
in_first-reached none step ts n m k id h l r = in_first-found none step ts n k id h l ∙ sym (in_first-found none step ts m k id h r)

module _ {A : Type 0} (none : A) (step : (ℕ → A) → Form → A) where
  first_written : (ts : Types) (id n m q : ℕ) (f : Form) → number_of ts id ≡ Some n → m ≤ n → in_first none step (writes id f ts) m q ≡ in_first none step ts m q
  unfolding in_first
  first_written ts id n zero q f h l = refl
  first_written ts id n (suc m) q f h l = rw (number_written ts id q f) (go (λ p. first_written ts id n m p f h (omega arith)) (holds m (number_of ts q)) refl)
    where
      other : (o : Option ℕ) → number_of ts q ≡ o → holds m o ≡ true → id ≢ q
      other None e g s = cc
      other (Some k) e g s = let a : k ≡ m = eqb-true k m g in let b : number_of ts id ≡ Some k = rw s e in let c : k ≡ n = cc in omega arith

      go : ((p : ℕ) → in_first none step (writes id f ts) m p ≡ in_first none step ts m p) → (b : Bool) → holds m (number_of ts q) ≡ b
          → (if b then option_map_or (step (in_first none step (writes id f ts) m)) (form_of (writes id f ts) q) none else in_first none step (writes id f ts) m q)
          ≡ (if b then option_map_or (step (in_first none step ts m)) (form_of ts q) none else in_first none step ts m q)
      go below true e =
          let same : (λ (p : ℕ). in_first none step (writes id f ts) m p) ≡ (λ (p : ℕ). in_first none step ts m p) = fun_ext below in
          rw (form_written ts id q f (other (number_of ts q) refl e)) (ap (λ (g : ℕ → A). option_map_or (step g) (form_of ts q) none) same)
      go below false e = below q

-- what a type before an array gives stays
pub in_first_kept : {A : Type 0} (none : A) (step : (ℕ → A) → Form → A) (ts : Types) (id k n q : ℕ) → number_of ts id ≡ Some k → IsAmong ts k q
    → in_first none step (with_length ts id n) (length (with_length ts id n)) q ≡ in_first none step ts (length ts) q
unfolding with_length
in_first_kept none step ts id k n q h among = by_form (form_of ts id)
  where
    kept : (f : Form) → in_first none step (writes id f ts) (length (writes id f ts)) q ≡ in_first none step ts (length ts) q
    kept f =
        let own : number_of (writes id f ts) q ≡ Some among.number = number_written ts id q f ∙ among.is in
        in_first-reached none step (writes id f ts) (length (writes id f ts)) k among.number q own (number_lt (writes id f ts) q among.number own) among.below
        ∙ first_written none step ts id k k q f h (omega arith)
        ∙ sym (in_first-reached none step ts (length ts) k among.number q among.is (number_lt ts q among.number among.is) among.below)

    by_form : (o : Option Form) → in_first none step (option_map_or (λ f. writes id (lengthened n f) ts) o ts) (length (option_map_or (λ f. writes id (lengthened n f) ts) o ts)) q ≡ in_first none step ts (length ts) q
    by_form None = refl
    by_form (Some f) = kept (lengthened n f)

-- what the types before an array count as stays
pub limits_kept : (ts : Types) (limits : List Limit) (id n : ℕ) → AreLimits ts limits → number_of ts id ≡ Some (length limits) → AreLimits (with_length ts id n) limits
unfolding with_length limit_among
limits_kept ts limits id n a h = by_form (form_of ts id)
  where
    kept : (f : Form) → AreLimits (writes id f ts) limits
    kept f = record {
      limits_are = λ m l.
          let same : (λ (p : ℕ). in_first no_limit limit_step (writes id f ts) m p) ≡ (λ (p : ℕ). in_first no_limit limit_step ts m p) = fun_ext (λ p. first_written no_limit limit_step ts id (length limits) m p f h (omega arith)) in
          a.limits_are m l ∙ sym (ap (limit_step (λ p. in_first no_limit limit_step (writes id f ts) m p)) (at_written ts id (length limits) m f h l) ∙ ap (λ (g : ℕ → Limit). limit_step g (form_at ts m)) same);
    }

    by_form : (o : Option Form) → AreLimits (option_map_or (λ f. writes id (lengthened n f) ts) o ts) limits
    by_form None = a
    by_form (Some f) = kept (lengthened n f)

pub next_is : (n : ℕ) (o : Option ℕ) → true ≡ holds n o → o ≡ Some n
next_is n o h = holds_is n o (sym h)

-- a number of at least 1 isn't 0
pub length_positive : (sign : ℕ) (c : Cell) → int_le (pos 1) (number_in sign c) ≡ true → 1 ≤ c.bits
unfolding signed
length_positive sign c h = read (sign == 1 && nat_le 1 c.width) h
  where
    halved : (b : Bool) → int_le (pos 1) (if b then pos c.bits else negsuc (2 ^ c.width - 1 - c.bits)) ≡ true → 1 ≤ c.bits
    halved true h = grind arith
    halved false h = cc

    read : (b : Bool) → int_le (pos 1) (if b then signed c.width c.bits else pos c.bits) ≡ true → 1 ≤ c.bits
    read true h = halved (nat_lt (2 * c.bits) (2 ^ c.width)) h
    read false h = grind arith
