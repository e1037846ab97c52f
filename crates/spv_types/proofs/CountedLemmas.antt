-- Types that are counted: their leaves, and that these stay as types are added and arrays get their lengths.
use Rattle.std.proofs.Common.{◌≡◌, ◌≢◌, ◌∙◌, ℕ, zero, suc, ◌+◌, ◌<◌, ◌≤◌, ◌==◌, Bool, true, false, List, [], ◌∷◌, ◌++◌, length, length-append, length-set, get_or, get_or-set_other, set, take, Option, Some, None, refl, sym, ap, subst, arith, slice_get}
use Rattle.std.specs.Prelude.{if◌then◌else◌, nat_lt}
use Rattle.std.specs.Option.{option_map, option_map_or, option_and_then, option_or}
use Rattle.std.proofs.Math.Path.{fun_ext}
use Rattle.std.proofs.Math.Seq.{get_or-append_seam}
use Rattle.std.proofs.lemmas.List.{get_or-take, get_or_append_left, length-take}
use Rattle.spv_types.specs.declared.counting.Count.{Count}
use Rattle.spv_types.specs.declared.forms.Form.{Form}
use Rattle.spv_types.specs.declared.forms.Form.TheVariants.{Void, Bool as Boolean, Int, Vector, Array, Runtime, Struct, Pointer, Function}
use Rattle.spv_types.specs.declared.forms.Member.{Member}
use Rattle.spv_types.specs.Types.{Types, form_at, form_of, found_among, in_first, number_of}
use Rattle.spv_types.specs.Cells.{added, cells_among, cells_of, cells_step, members_cells}
use Rattle.spv_base.specs.Saturation.{saturated}
use Rattle.spv_types.specs.Counted.{AreBefore, AreCounted, HasFirsts, IsCounted, PartsAreBefore, members_of}
use Rattle.spv_types.specs.Laws.{IsAmong}
use Rattle.spv_types.specs.Shapes.{part_type}
use Rattle.spv_base.proofs.Exports.{holds_is, saturated-add}
use Rattle.spv_base.specs.Options.{holds}
use Rattle.spv_types.proofs.CellLemmas.{members_cells_more}
use Rattle.spv_types.proofs.TypeLemmas.{in_first-found, number_form, number_lt, number_push}
use Rattle.spv_types.proofs.TableLemmas.{number_set}

-- ---- a type that is found

abbrev pair : ℕ → Form → ℕ × Form
pair n f = (n, f)

pub record FoundAt (ts : Types) (limit id n : ℕ) (f : Form) : Type 0 where
  pub number : number_of ts id ≡ Some n
  pub below : n < limit
  pub form : form_at ts n ≡ f

pub found_at : (ts : Types) (limit id n : ℕ) (f : Form) → found_among ts limit id ≡ Some (n, f) → FoundAt ts limit id n f
found_at ts limit id n f h = numbered (number_of ts id) refl h
  where
    formed : (m : ℕ) → number_of ts id ≡ Some m → (b : Bool) → nat_lt m limit ≡ b → (o : Option Form) → form_of ts id ≡ o
        → (if b then option_map {U = ℕ × Form} (λ (f : Form). (m, f)) o else None) ≡ Some (n, f) → FoundAt ts limit id n f
    formed m e false l o g h = cc
    formed m e true l None g h = cc
    formed m e true l (Some x) g h =
        let p : pair n f ≡ pair m x = cc in
        let same : n ≡ m = ap (λ (q : ℕ × Form). q.0) p in
        let here : f ≡ x = ap (λ (q : ℕ × Form). q.1) p in
        let at : Some (form_at ts m) ≡ Some x = sym (number_form ts id m (0, Void) e) ∙ g in
        let is : form_at ts m ≡ x = cc in
        record { number = e ∙ ap Some (sym same); below = rw same (grind arith); form = ap (form_at ts) same ∙ is ∙ sym here }

    numbered : (o : Option ℕ) → number_of ts id ≡ o → option_and_then {U = ℕ × Form} (λ m. if nat_lt m limit then option_map {U = ℕ × Form} (λ (f : Form). (m, f)) (form_of ts id) else None) o ≡ Some (n, f) → FoundAt ts limit id n f
    numbered None e h = cc
    numbered (Some m) e h = formed m e (nat_lt m limit) refl (form_of ts id) refl h

pub cells_at : (ts : Types) (limit id n : ℕ) → number_of ts id ≡ Some n → n < limit → cells_among ts limit id ≡ cells_step (cells_among ts n) (form_at ts n)
unfolding cells_among
cells_at ts limit id n h l = in_first-found None cells_step ts limit n id h l ∙ rw (number_form ts id n (0, Void) h) refl

pub counted_cells : (ts : Types) (limit id n : ℕ) (f : Form) (c : Count) → found_among ts limit id ≡ Some (n, f) → IsCounted ts n c → c.cells ≡ option_map saturated (cells_among ts limit id)
counted_cells ts limit id n f c h counted =
    let at = found_at ts limit id n f h in
    counted.cells ∙ ap (option_map saturated) (sym (cells_at ts limit id n at.number at.below))

-- ---- leaves before members

pub added_cuts : (a b : Option ℕ) → option_map saturated (added (option_map saturated a) (option_map saturated b)) ≡ option_map saturated (added a b)
added_cuts None b = refl
added_cuts (Some n) None = refl
added_cuts (Some n) (Some m) = let e : saturated (saturated n + saturated m) ≡ saturated (n + m) = saturated-add n m in ap Some e

pub first_next : (f : ℕ → Option ℕ) (ms : List Member) (i : ℕ) (d : Member) (before here after : Option ℕ) → i < length ms → before ≡ option_map saturated (members_cells f (take i ms)) → here ≡ option_map saturated (f (get_or ms i d).ty)
    → after ≡ option_map saturated (added before here) → after ≡ option_map saturated (members_cells f (take (i + 1) ms))
first_next f ms i d before here after l h k e =
    e ∙ rw (h, k) (added_cuts (members_cells f (take i ms)) (f (get_or ms i d).ty)) ∙ ap (option_map saturated) (sym (members_cells_more f ms i d l))

pub firsts_next : (f : ℕ → Option ℕ) (ms : List Member) (i : ℕ) (firsts : List (Option ℕ)) (before : Option ℕ) → HasFirsts f ms i firsts → before ≡ option_map saturated (members_cells f (take i ms)) → HasFirsts f ms (i + 1) (firsts ++ before ∷ [])
firsts_next f ms i firsts before has is = record {
  long = omega (arith, length-append firsts (before ∷ []), has.long);
  firsts_are = λ k below. read k (k == i) refl below;
}
  where
    read : (k : ℕ) (b : Bool) → (k == i) ≡ b → k < i + 1 → get_or (firsts ++ before ∷ []) k None ≡ option_map saturated (members_cells f (take k ms))
    read k true e below =
        let same : k ≡ i = grind arith in
        let end : k ≡ length firsts = same ∙ sym has.long in
        let last : get_or (firsts ++ before ∷ []) k None ≡ before = rw end (get_or-append_seam firsts before [] None) in
        last ∙ is ∙ ap (λ (n : ℕ). option_map saturated (members_cells f (take n ms))) (sym same)
    read k false e below =
        let apart : k ≢ i = grind arith in
        let less : k < i = omega arith in
        get_or_append_left firsts (before ∷ []) None k (omega (arith, has.long)) ∙ has.firsts_are k less

-- ---- parts that come before

pub before_next : (ts : Types) (n i : ℕ) (ms : List Member) (d : Member) → i < length ms → AreBefore ts n (take i ms) → IsAmong ts n (get_or ms i d).ty → AreBefore ts n (take (i + 1) ms)
before_next ts n i [] d l all here = absurd (omega arith)
before_next ts n zero (m ∷ ms) d l all here = λ k part is. first k part is
  where
    first : (k part : ℕ) → option_map (λ (x : Member). x.ty) (slice_get (m ∷ []) k) ≡ Some part → IsAmong ts n part
    first zero part is = let same : m.ty ≡ part = cc in subst (IsAmong ts n) same here
    first (suc k) part is = cc
before_next ts n (suc i) (m ∷ ms) d l all here = λ k part is. later (before_next ts n i ms d (omega arith) (λ j other at. all (suc j) other at) here) k part (rw (suc_add i) at is)
  where
    suc_add : (j : ℕ) → suc j + 1 ≡ suc (j + 1)
    suc_add j = omega arith

    later : AreBefore ts n (take (i + 1) ms) → (k part : ℕ) → option_map (λ (x : Member). x.ty) (slice_get (m ∷ take (i + 1) ms) k) ≡ Some part → IsAmong ts n part
    later rest zero part is = all 0 part is
    later rest (suc k) part is = rest k part is

members_same : (f g : ℕ → Option ℕ) (ms : List Member) (i : ℕ) → ((k part : ℕ) → option_map (λ (m : Member). m.ty) (slice_get ms k) ≡ Some part → f part ≡ g part) → members_cells f (take i ms) ≡ members_cells g (take i ms)
unfolding members_cells
members_same f g [] zero h = refl
members_same f g [] (suc i) h = refl
members_same f g (m ∷ ms) zero h = refl
members_same f g (m ∷ ms) (suc i) h = rw (h 0 m.ty refl, members_same f g ms i (λ k part is. h (suc k) part is)) refl

pub cells_whole : (ts : Types) (n part : ℕ) → IsAmong ts n part → cells_among ts n part ≡ cells_of ts part
unfolding cells_of
cells_whole ts n part among = cells_at ts n part among.number among.is among.below ∙ sym (cells_at ts (length ts) part among.number among.is (number_lt ts part among.number among.is))

firsts_whole : (ts : Types) (n i : ℕ) (f : Form) → PartsAreBefore ts n f → members_cells (cells_among ts n) (take i (members_of f)) ≡ members_cells (cells_of ts) (take i (members_of f))
firsts_whole ts n i Void parts = members_same _ _ [] i (λ k part is. cc)
firsts_whole ts n i Boolean parts = members_same _ _ [] i (λ k part is. cc)
firsts_whole ts n i (Int width sign) parts = members_same _ _ [] i (λ k part is. cc)
firsts_whole ts n i (Vector component count) parts = members_same _ _ [] i (λ k part is. cc)
firsts_whole ts n i (Array element len stride) parts = members_same _ _ [] i (λ k part is. cc)
firsts_whole ts n i (Runtime element stride) parts = members_same _ _ [] i (λ k part is. cc)
firsts_whole ts n i (Struct members block) parts = members_same (cells_among ts n) (cells_of ts) members i (λ k part is. cells_whole ts n part (parts k part is))
firsts_whole ts n i (Pointer class target) parts = members_same _ _ [] i (λ k part is. cc)
firsts_whole ts n i (Function returns parameters) parts = members_same _ _ [] i (λ k part is. cc)

-- the leaves before a member of a struct that was counted
pub counted_first : (ts : Types) (n i : ℕ) (ms : List Member) (c : Count) → IsCounted ts n c → ms ≡ members_of (form_at ts n) → i < length ms → get_or c.firsts i None ≡ option_map saturated (members_cells (cells_of ts) (take i ms))
counted_first ts n i ms c counted is l =
    rw is (counted.firsts.firsts_are i (subst (λ (xs : List Member). i < length xs) is l) ∙ ap (option_map saturated) (firsts_whole ts n i (form_at ts n) counted.parts))

-- ---- types that agree at the beginning

pub record Agree (ts us : Types) (n : ℕ) : Type 0 where
  pub numbers : (k q : ℕ) → k < n → holds k (number_of us q) ≡ holds k (number_of ts q)
  pub kept : (k q : ℕ) → k < n → number_of ts q ≡ Some k → number_of us q ≡ Some k
  pub forms : (k q : ℕ) → k < n → number_of ts q ≡ Some k → form_of us q ≡ form_of ts q
  pub at : (k : ℕ) → k < n → form_at us k ≡ form_at ts k

cells_agree : (ts us : Types) (n m : ℕ) → Agree ts us n → m ≤ n → cells_among us m ≡ cells_among ts m
unfolding cells_among in_first
cells_agree ts us n zero a l = refl
cells_agree ts us n (suc m) a l = fun_ext (λ q. here (cells_agree ts us n m a (omega arith)) q (holds m (number_of ts q)) refl)
  where
    here : cells_among us m ≡ cells_among ts m → (q : ℕ) (b : Bool) → holds m (number_of ts q) ≡ b
        → (if holds m (number_of us q) then option_map_or (cells_step (cells_among us m)) (form_of us q) None else cells_among us m q)
        ≡ (if holds m (number_of ts q) then option_map_or (cells_step (cells_among ts m)) (form_of ts q) None else cells_among ts m q)
    here below q true e = rw (a.numbers m q (omega arith), e, a.forms m q (omega arith) (holds_is m (number_of ts q) e), below) refl
    here below q false e = rw (a.numbers m q (omega arith), e, below) refl

counted_agrees : (ts us : Types) (n : ℕ) (c : Count) → Agree ts us (suc n) → IsCounted ts n c → IsCounted us n c
counted_agrees ts us n c a counted =
    let form : form_at us n ≡ form_at ts n = a.at n (omega arith) in
    let cells : cells_among us n ≡ cells_among ts n = cells_agree ts us (suc n) n a (omega arith) in
    record {
      parts = λ index part is.
          let among = counted.parts index part (ap (λ (f : Form). part_type f index) (sym form) ∙ is) in
          record { number = among.number; is = a.kept among.number part (omega (arith, among.below)) among.is; below = among.below };
      cells = counted.cells ∙ sym (rw (form, cells) refl);
      firsts = rw (form, cells) counted.firsts;
    }

-- ---- a type added at the end

push_agrees : (ts : Types) (t : ℕ × Form) → Agree ts (ts ++ t ∷ []) (length ts)
push_agrees ts t = record {
  numbers = λ k q l. ap (holds k) (number_push ts t q) ∙ numbers k l (number_of ts q) (t.0 == q);
  kept = λ k q l is. number_push ts t q ∙ rw is refl;
  forms = λ k q l is. forms k q l is;
  at = λ k l. ap (λ (x : ℕ × Form). x.1) (get_or_append_left ts (t ∷ []) (0, Void) k l);
}
  where
    numbers : (k : ℕ) → k < length ts → (o : Option ℕ) (b : Bool) → holds k (option_or o (if b then Some (length ts) else None)) ≡ holds k o
    numbers k l None true = grind arith
    numbers k l None false = refl
    numbers k l (Some m) b = refl

    forms : (k q : ℕ) → k < length ts → number_of ts q ≡ Some k → form_of (ts ++ t ∷ []) q ≡ form_of ts q
    forms k q l is =
        number_form (ts ++ t ∷ []) q k (0, Void) (number_push ts t q ∙ rw is refl)
        ∙ ap (λ (x : ℕ × Form). Some x.1) (get_or_append_left ts (t ∷ []) (0, Void) k l)
        ∙ sym (number_form ts q k (0, Void) is)

shorter : (ts us : Types) (n m : ℕ) → m ≤ n → Agree ts us n → Agree ts us m
shorter ts us n m l a = record {
  numbers = λ k q h. a.numbers k q (omega arith);
  kept = λ k q h is. a.kept k q (omega arith) is;
  forms = λ k q h is. a.forms k q (omega arith) is;
  at = λ k h. a.at k (omega arith);
}

pub counted_push : (ts : Types) (t : ℕ × Form) (counts : List Count) → AreCounted ts counts → AreCounted (ts ++ t ∷ []) counts
counted_push ts t counts all = record {
  few = omega (arith, all.few, length-append ts (t ∷ []));
  counts_are = λ n d l. counted_agrees ts (ts ++ t ∷ []) n (get_or counts n d) (shorter ts (ts ++ t ∷ []) (length ts) (suc n) (omega (arith, all.few)) (push_agrees ts t)) (all.counts_are n d l);
}

-- ---- a form written over another

set_agrees : (ts : Types) (n : ℕ) (x d : ℕ × Form) → n < length ts → x.0 ≡ (get_or ts n d).0 → Agree ts (set ts n x) n
set_agrees ts n x d l same = record {
  numbers = λ k q h. ap (holds k) (number_set ts n x d q l same);
  kept = λ k q h is. number_set ts n x d q l same ∙ is;
  forms = λ k q h is.
      number_form (set ts n x) q k (0, Void) (number_set ts n x d q l same ∙ is) ∙ ap (λ (y : ℕ × Form). Some y.1) (other k h) ∙ sym (number_form ts q k (0, Void) is);
  at = λ k h. ap (λ (y : ℕ × Form). y.1) (other k h);
}
  where
    other : (k : ℕ) → k < n → get_or (set ts n x) k (0, Void) ≡ get_or ts k (0, Void)
    other k h = let ne : k ≢ n = omega arith in rw get_or-set_other refl

pub counted_set : (ts : Types) (n : ℕ) (x d : ℕ × Form) (counts : List Count) → n < length ts → x.0 ≡ (get_or ts n d).0 → AreCounted ts counts → AreCounted (set ts n x) (take n counts)
counted_set ts n x d counts l same all =
    let long : length (take n counts) ≤ n = omega (arith, length-take n counts) in
    record {
      few = omega (arith, length-set ts n x);
      counts_are = λ k e below.
          let near : k < n = omega arith in
          let inside : k < length counts = omega (arith, length-take n counts) in
          let read : get_or (take n counts) k e ≡ get_or counts k e = get_or-take n counts k e near in
          subst (IsCounted (set ts n x) k) (sym read) (counted_agrees ts (set ts n x) k (get_or counts k e) (shorter ts (set ts n x) n (suc k) near (set_agrees ts n x d l same)) (all.counts_are k e inside));
    }

-- ---- a type counted at the end

pub counted_next : (ts : Types) (counts : List Count) (c : Count) → AreCounted ts counts → length counts < length ts → IsCounted ts (length counts) c → AreCounted ts (counts ++ c ∷ [])
counted_next ts counts c all l counted = record {
  few = omega (arith, length-append counts (c ∷ []));
  counts_are = λ k d below. read k d (k == length counts) refl (omega (arith, length-append counts (c ∷ [])));
}
  where
    read : (k : ℕ) (d : Count) (b : Bool) → (k == length counts) ≡ b → k < length counts + 1 → IsCounted ts k (get_or (counts ++ c ∷ []) k d)
    read k d true e below =
        let same : k ≡ length counts = grind arith in
        let last : get_or (counts ++ c ∷ []) k d ≡ c = rw same (get_or-append_seam counts c [] d) in
        rw last (subst (λ (n : ℕ). IsCounted ts n c) (sym same) counted)
    read k d false e below =
        let apart : k ≢ length counts = grind arith in
        let less : k < length counts = omega arith in
        rw (get_or_append_left counts (c ∷ []) d k less) (all.counts_are k d less)

-- ---- a type found by its number

pub form_found : (ts : Types) (id n : ℕ) → number_of ts id ≡ Some n → Some (form_at ts n) ≡ form_of ts id
form_found ts id n h = sym (number_form ts id n (0, Void) h)
