-- A type added at the end, and a form written under an id.
use Rattle.std.proofs.Common.{◌≡◌, ◌∙◌, ℕ, zero, suc, ◌<◌, ◌==◌, Bool, true, false, List, [], ◌∷◌, ◌++◌, length, length-append, get_or, set, take, take_at, ◌-◌, Option, Some, None, Result, Ok, Err, refl, sym, ap, subst, arith}
use Rattle.std.specs.Prelude.{if◌then◌else◌}
use Rattle.std.specs.Option.{option_map}
use Rattle.std.specs.Result.{OnErr, OnOk, is_ok}
use Rattle.spv_base.specs.Entries.{writes}
use Rattle.spv_types.specs.declared.forms.Form.{Form}
use Rattle.spv_types.specs.declared.forms.Form.TheVariants.{Void, Bool as Boolean, Int, Vector, Array, Runtime, Struct, Pointer, Function}
use Rattle.spv_types.specs.Types.{Types, number_of, form_of, IsUnset, with_length}
use Rattle.spv_types.proofs.TypeLemmas.{number_form, number_none}

pub number_set : (ts : Types) (n : ℕ) (x d : ℕ × Form) (q : ℕ) → n < length ts → x.0 ≡ (get_or ts n d).0 → number_of (set ts n x) q ≡ number_of ts q
number_set [] n x d q l h = refl
number_set (t ∷ ts) zero x d q l h = rw h refl
number_set (t ∷ ts) (suc n) x d q l h = rw (number_set ts n x d q (omega arith) h) refl

pub write_at : (ts : Types) (id n : ℕ) (f : Form) (d : ℕ × Form) → number_of ts id ≡ Some n → set ts n ((get_or ts n d).0, f) ≡ writes id f ts
write_at [] id n f d h = cc
write_at (t ∷ ts) id n f d h = step (t.0 == id) t ts id (number_of ts id) n f d h (λ m. write_at ts id m f d)
  where
    step : (b : Bool) (t : ℕ × Form) (ts : Types) (id : ℕ) (o : Option ℕ) (n : ℕ) (f : Form) (d : ℕ × Form) → (if b then Some 0 else option_map suc o) ≡ Some n → ((m : ℕ) → o ≡ Some m → set ts m ((get_or ts m d).0, f) ≡ writes id f ts)
        → set (t ∷ ts) n ((get_or (t ∷ ts) n d).0, f) ≡ (if b then (t.0, f) ∷ ts else t ∷ writes id f ts)
    step true t ts id o n f d h ih = let e : 0 ≡ n = cc in rw (← e) refl
    step false t ts id None n f d h ih = cc
    step false t ts id (Some m) n f d h ih = let e : suc m ≡ n = cc in rw (← e) (ap (λ (us : List (ℕ × Form)). t ∷ us) (ih m refl))

-- a length written into the array that is number n
pub length_at : (ts us : Types) (id n k : ℕ) (x : ℕ × Form) (element : ℕ) (length stride : Option ℕ) → ts ≡ us → number_of us id ≡ Some n → x ≡ get_or ts n x → x.1 ≡ Array element length stride
    → set ts n (x.0, Array element (Some k) stride) ≡ with_length us id k
unfolding with_length
length_at ts us id n k x element len stride same h e is =
    let f = number_form us id n x h in
    let g : get_or us n x ≡ x = rw (← same) (sym e) in
    let w = write_at us id n (Array element (Some k) stride) x h in
    let y : form_of us id ≡ Some (Array element len stride) = f ∙ ap (λ (z : ℕ × Form). Some z.1) g ∙ ap Some is in
    rw (same, y, ← w, g) refl

pub unset_array : (f : Form) → IsUnset (Some f) → (e : ℕ) × (s : Option ℕ) × (f ≡ Array e None s)
unset_array Void h = absurd h
unset_array Boolean h = absurd h
unset_array (Int width sign) h = absurd h
unset_array (Vector component count) h = absurd h
unset_array (Array element None stride) h = (element, stride, refl)
unset_array (Array element (Some n) stride) h = absurd h
unset_array (Runtime element stride) h = absurd h
unset_array (Struct members block) h = absurd h
unset_array (Pointer class target) h = absurd h
unset_array (Function returns parameters) h = absurd h

-- what is not an array is not unset
pub unset_at : (ts us : Types) (id n : ℕ) (x : ℕ × Form) → ts ≡ us → number_of us id ≡ Some n → x ≡ get_or ts n x → IsUnset (form_of us id) → ((e : ℕ) (l s : Option ℕ) → x.1 ≡ Array e l s → ⊥) → ⊥
unset_at ts us id n x same h e unset apart =
    let f = number_form us id n x h in
    let g : get_or us n x ≡ x = rw (← same) (sym e) in
    let y : form_of us id ≡ Some x.1 = f ∙ ap (λ (z : ℕ × Form). Some z.1) g in
    let u : IsUnset (Some x.1) = subst IsUnset y unset in
    let a = unset_array x.1 u in
    apart a.0 None a.1 a.2

pub unset_known : (ts : Types) (id : ℕ) → number_of ts id ≡ None → IsUnset (form_of ts id) → ⊥
unset_known ts id h unset = let e = number_none ts id h in subst IsUnset e unset

pub on_ok : {T E : Type 0} (r : Result T E) (P : Type 0) → OnOk r P → is_ok r ≡ true → P
on_ok (Ok x) P h e = h
on_ok (Err x) P h e = cc

pub on_err : {T E : Type 0} (r : Result T E) (P : Type 0) → OnErr r P → is_ok r ≡ false → P
on_err (Ok x) P h e = cc
on_err (Err x) P h e = h

-- an item that was pushed and popped again
pub popped : (ts us vs : Types) (t : ℕ × Form) (n : ℕ) → us ≡ ts ++ t ∷ [] → n ≡ length us → vs ≡ take (n - 1) us → vs ≡ ts
popped ts us vs t n e l h =
    let long : length ts ≡ n - 1 = omega (arith, ap length e, length-append ts (t ∷ [])) in
    h ∙ ap (take (n - 1)) e ∙ take_at ts (t ∷ []) (n - 1) long
