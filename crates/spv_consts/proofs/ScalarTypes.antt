-- The leaves of a scalar or a vector: one, or as many as components, of its lanes' width.
use Rattle.std.proofs.Common.{◌≡◌, ◌∙◌, ℕ, zero, suc, ◌≤◌, true, List, [], ◌∷◌, replicate, Option, Some, None, refl, sym, ap, subst, arith}
use Rattle.std.specs.Prelude.{min, nat_le, nat_lt}
use Rattle.std.specs.Option.{option_map}
use Rattle.std.specs.List.{flat_map}
use Rattle.spv_types.specs.declared.forms.Form.{Form}
use Rattle.spv_types.specs.declared.forms.Form.TheVariants.{Void, Bool as FormBool, Int as FormInt, Vector, Array, Runtime, Struct, Pointer, Function}
use Rattle.spv_types.specs.Types.{Types, form_of}
use Rattle.spv_types.specs.Rules.{is_width}
use Rattle.spv_types.specs.Laws.{AreSound}
use Rattle.spv_typing.specs.declared.lanes.Element.{Element}
use Rattle.spv_typing.specs.declared.lanes.Element.TheVariants.{Bool as Boolean, Int}
use Rattle.spv_typing.specs.declared.lanes.Lanes.{Lanes}
use Rattle.spv_typing.specs.Lanes.{element_of, form_lanes, lanes_of, repeated, width_of}
use Rattle.spv_consts.specs.Lanes.{is_lane_width}
use Rattle.spv_consts.specs.Operations.{lane_width, scalar_width}
use Rattle.spv_consts.specs.Values.{leaf_widths}
use Rattle.spv_consts.proofs.WidthLemmas.{widths_by_form}
use Rattle.std.proofs.lemmas.Bool.{leb-true, and_parts}
use Rattle.std.proofs.lemmas.Option.{same_Some}

-- a type of so many lanes: their width is one of a lane, it is what the type is asked for, and the leaves have it
pub record AreLanes (ts : Types) (id n : ℕ) (e : Element) : Type 0 where
  pub wide : is_lane_width (width_of e) ≡ true
  pub width : lane_width ts (form_of ts id) ≡ width_of e
  pub leaves : leaf_widths ts id ≡ replicate n (width_of e)

lane_width_of : (w : ℕ) → is_width w ≡ true → is_lane_width w ≡ true
lane_width_of w h = grind arith

-- no lane is wider than 64 bits
within : (w : ℕ) → is_lane_width w ≡ true → min w 64 ≡ w
within w h = fits (and_parts (nat_lt 0 w) (nat_le w 64) h).1
  where
    fits : nat_le w 64 ≡ true → min w 64 ≡ w
    fits h =
        let l : w ≤ 64 = leb-true w 64 h in
        omega arith

same_lanes : (n m : ℕ) (e f : Element) → Some (repeated n e) ≡ Some (repeated m f) → (n ≡ m) × (e ≡ f)
same_lanes n m e f h =
    let p = same_Some (repeated n e) (repeated m f) h in
    (ap (λ (l : Lanes). l.count) p, ap (λ (l : Lanes). l.element) p)

module _ (ts : Types) (sound : AreSound ts) where
  -- the lanes of an integer have one of the four widths
  integer_width : (id width sign : ℕ) → form_of ts id ≡ Some (FormInt width sign) → is_lane_width width ≡ true
  integer_width id width sign e = lane_width_of width (and_parts (is_width width) (nat_le sign 1) (sound.kept id (FormInt width sign) e)).0

  -- ---- scalars

  element_width : (id : ℕ) (e : Element) → element_of (form_of ts id) ≡ Some e → is_lane_width (width_of e) ≡ true
  element_width id e h = by_form (form_of ts id) refl h
    where
      by_form : (o : Option Form) → form_of ts id ≡ o → element_of o ≡ Some e → is_lane_width (width_of e) ≡ true
      by_form None is h = cc
      by_form (Some Void) is h = cc
      by_form (Some FormBool) is h = subst (λ k. is_lane_width (width_of k) ≡ true) (same_Some Boolean e h) refl
      by_form (Some (FormInt width sign)) is h = subst (λ k. is_lane_width (width_of k) ≡ true) (same_Some (Int width) e h) (integer_width id width sign is)
      by_form (Some (Vector component count)) is h = cc
      by_form (Some (Array element n stride)) is h = cc
      by_form (Some (Runtime element stride)) is h = cc
      by_form (Some (Struct members block)) is h = cc
      by_form (Some (Pointer class target)) is h = cc
      by_form (Some (Function returns parameters)) is h = cc

  scalar_width_is : (id : ℕ) (e : Element) → element_of (form_of ts id) ≡ Some e → scalar_width (form_of ts id) ≡ width_of e
  scalar_width_is id e h = by_form (form_of ts id) refl h
    where
      by_form : (o : Option Form) → form_of ts id ≡ o → element_of o ≡ Some e → scalar_width o ≡ width_of e
      by_form None is h = cc
      by_form (Some Void) is h = cc
      by_form (Some FormBool) is h = ap width_of (same_Some Boolean e h)
      by_form (Some (FormInt width sign)) is h = within width (integer_width id width sign is) ∙ ap width_of (same_Some (Int width) e h)
      by_form (Some (Vector component count)) is h = cc
      by_form (Some (Array element n stride)) is h = cc
      by_form (Some (Runtime element stride)) is h = cc
      by_form (Some (Struct members block)) is h = cc
      by_form (Some (Pointer class target)) is h = cc
      by_form (Some (Function returns parameters)) is h = cc

  scalar_leaves : (id : ℕ) (e : Element) → element_of (form_of ts id) ≡ Some e → leaf_widths ts id ≡ width_of e ∷ []
  scalar_leaves id e h = by_form (form_of ts id) refl h
    where
      by_form : (o : Option Form) → form_of ts id ≡ o → element_of o ≡ Some e → leaf_widths ts id ≡ width_of e ∷ []
      by_form None is h = absurd (cc)
      by_form (Some Void) is h = absurd (cc)
      by_form (Some FormBool) is h = widths_by_form ts sound id FormBool is ∙ ap (λ k. width_of k ∷ []) (same_Some Boolean e h)
      by_form (Some (FormInt width sign)) is h = widths_by_form ts sound id (FormInt width sign) is ∙ ap (λ k. width_of k ∷ []) (same_Some (Int width) e h)
      by_form (Some (Vector component count)) is h = absurd (cc)
      by_form (Some (Array element n stride)) is h = absurd (cc)
      by_form (Some (Runtime element stride)) is h = absurd (cc)
      by_form (Some (Struct members block)) is h = absurd (cc)
      by_form (Some (Pointer class target)) is h = absurd (cc)
      by_form (Some (Function returns parameters)) is h = absurd (cc)

  -- ---- vectors

  repeated_leaves : (g : ℕ → List ℕ) (n t w : ℕ) → g t ≡ w ∷ [] → flat_map g (replicate n t) ≡ replicate n w
  repeated_leaves g zero t w h = refl
  repeated_leaves g (suc n) t w h = rw (h, repeated_leaves g n t w h) refl

  vector_leaves : (id component count : ℕ) (e : Element) → form_of ts id ≡ Some (Vector component count) → element_of (form_of ts component) ≡ Some e
      → leaf_widths ts id ≡ replicate count (width_of e)
  vector_leaves id component count e is h =
      widths_by_form ts sound id (Vector component count) is ∙ repeated_leaves (leaf_widths ts) count component (width_of e) (scalar_leaves component e h)

  -- ---- types with lanes

  pub are_lanes : (id n : ℕ) (e : Element) → lanes_of ts id ≡ Some (repeated n e) → AreLanes ts id n e
  unfolding lanes_of
  are_lanes id n e h = by_form (form_of ts id) refl h
    where
      scalar : (one : Element) (f : Form) → form_of ts id ≡ Some f → element_of (Some f) ≡ Some one → lane_width ts (Some f) ≡ scalar_width (Some f) → Some (repeated 1 one) ≡ Some (repeated n e) → AreLanes ts id n e
      scalar one f is h w l =
          let p = same_lanes 1 n one e l in
          let g : element_of (form_of ts id) ≡ Some one = rw is h in
          subst (λ k. AreLanes ts id k e) p.0 (subst (AreLanes ts id 1) p.1 (record {
            wide = element_width id one g;
            width = rw is (w ∙ sym (ap scalar_width is) ∙ scalar_width_is id one g);
            leaves = scalar_leaves id one g;
          }))

      vector : (component count : ℕ) → form_of ts id ≡ Some (Vector component count) → (o : Option Element) → element_of (form_of ts component) ≡ o → option_map (repeated count) o ≡ Some (repeated n e) → AreLanes ts id n e
      vector component count is None g l = absurd (cc)
      vector component count is (Some one) g l =
          let p = same_lanes count n one e l in
          subst (λ k. AreLanes ts id k e) p.0 (subst (AreLanes ts id count) p.1 (record {
            wide = element_width component one g;
            width = rw is (scalar_width_is component one g);
            leaves = vector_leaves id component count one is g;
          }))

      by_form : (o : Option Form) → form_of ts id ≡ o → form_lanes ts o ≡ Some (repeated n e) → AreLanes ts id n e
      by_form None is l = absurd (cc)
      by_form (Some Void) is l = absurd (cc)
      by_form (Some FormBool) is l = scalar Boolean FormBool is refl refl l
      by_form (Some (FormInt width sign)) is l = scalar (Int width) (FormInt width sign) is refl refl l
      by_form (Some (Vector component count)) is l = vector component count is (element_of (form_of ts component)) refl l
      by_form (Some (Array element n stride)) is l = absurd (cc)
      by_form (Some (Runtime element stride)) is l = absurd (cc)
      by_form (Some (Struct members block)) is l = absurd (cc)
      by_form (Some (Pointer class target)) is l = absurd (cc)
      by_form (Some (Function returns parameters)) is l = absurd (cc)
