-- The frames that are shown of a stack, with those of one call more.
use Rattle.std.proofs.Common.{◌≡◌, ◌≢◌, ◌∙◌, ℕ, suc, zero, ◌+◌, ◌-◌, ◌==◌, true, List, [], ◌∷◌, ◌++◌, append_assoc, length, append-nil, map, take, slice_get, Option, Some, None, refl, sym, ap, arith}
use Rattle.std.specs.Prelude.{option_map, reverse}
use Rattle.std.specs.Option.{option_map_or}
use Rattle.std.proofs.lemmas.List.{take_all}
use Rattle.std.proofs.lemmas.Option.{slice_get-map}
use Rattle.spv_base.proofs.Exports.{element_at, not_same}
use Rattle.spv_valid.specs.Acceptance.{Accepted}
use Rattle.spv_dbg.specs.declared.frames.ShownFrame.{ShownFrame}
use Rattle.spv_dbg.specs.Tables.{Tables}
use Rattle.spv_frame.specs.Frames.{Held as Frame}
use Rattle.spv_scopes.specs.declared.calls.Linked.{Linked}
use Rattle.spv_scopes.specs.declared.frames.Real.{Real}
use Rattle.spv_scopes.specs.declared.places.Place.{Place}
use Rattle.spv_scopes.specs.Calls.{calls_from, seen_at}
use Rattle.spv_scopes.specs.Shown.{first_at, first_frame, frame_at, frames_at, frames_from, outer_frames, real_of}
use Rattle.spv_scopes.specs.Spots.{Spots, spot_in}

-- a call's frame that is put behind those of the calls in it
pub frames_pushed : (f : Place → ShownFrame) (calls : List Linked) (number : Option ℕ) (k : Linked) (x : ShownFrame) (old new whole : List ShownFrame) → calls_from calls number ≡ k.place ∷ calls_from calls k.call
    → x ≡ f k.place → new ≡ old ++ x ∷ [] → old ++ map f (calls_from calls number) ≡ whole → new ++ map f (calls_from calls k.call) ≡ whole
frames_pushed f calls number k x old new whole here is put h =
    ap (λ l. l ++ map f (calls_from calls k.call)) put
    ∙ append_assoc old (x ∷ []) (map f (calls_from calls k.call))
    ∙ ap (λ y. old ++ y ∷ map f (calls_from calls k.call)) is
    ∙ sym (ap (λ ps. old ++ map f ps) here)
    ∙ h

-- ---- the frames of a call, where what is kept of its next instruction is known

module _ (m : Accepted) (t : Tables) (spots : Spots) (r : Real) (calls : List Linked) (k : Linked) (is : seen_at calls k ≡ spot_in spots r.word) where
  all_frames : first_at m t r k.place ∷ outer_frames m t r (seen_at calls k) ≡ frames_at m t spots r
  all_frames = ap (λ s. first_frame m t r s ∷ outer_frames m t r s) is

  outer_none : k.place.function ≡ 0 → outer_frames m t r (seen_at calls k) ≡ []
  outer_none none = let y : (k.place.function == 0) ≡ true = rw none refl in rw y refl

  outer_some : k.place.function ≢ 0 → outer_frames m t r (seen_at calls k) ≡ map (frame_at m t r) (calls_from (reverse calls) k.call)
  outer_some some = rw (not_same k.place.function 0 some) refl

  -- in no Function
  pub frame_alone : (x : ShownFrame) (old new : List ShownFrame) → k.place.function ≡ 0 → x ≡ first_at m t r k.place → new ≡ old ++ x ∷ [] → new ≡ old ++ frames_at m t spots r
  frame_alone x old new none x_is put = put ∙ ap (λ f. old ++ f ∷ []) x_is ∙ ap (λ l. old ++ first_at m t r k.place ∷ l) (sym (outer_none none)) ∙ ap (λ l. old ++ l) all_frames

  -- in one, with those of the calls around it
  pub frame_inside : (x : ShownFrame) (old mid new : List ShownFrame) → k.place.function ≢ 0 → x ≡ first_at m t r k.place → mid ≡ old ++ x ∷ []
      → new ≡ mid ++ map (frame_at m t r) (calls_from (reverse calls) k.call) → new ≡ old ++ frames_at m t spots r
  frame_inside x old mid new some x_is put more =
      more
      ∙ ap (λ l. l ++ map (frame_at m t r) (calls_from (reverse calls) k.call)) put
      ∙ append_assoc old (x ∷ []) (map (frame_at m t r) (calls_from (reverse calls) k.call))
      ∙ ap (λ f. old ++ f ∷ map (frame_at m t r) (calls_from (reverse calls) k.call)) x_is
      ∙ ap (λ l. old ++ first_at m t r k.place ∷ l) (sym (outer_some some))
      ∙ ap (λ l. old ++ l) all_frames

  -- ---- the one with a number

  number_in : (number : ℕ) → slice_get (first_at m t r k.place ∷ outer_frames m t r (seen_at calls k)) number ≡ slice_get (frames_at m t spots r) number
  number_in number = ap (λ l. slice_get l number) all_frames

  pub first_numbered : (x : ShownFrame) (number : ℕ) → number ≡ 0 → x ≡ first_at m t r k.place → Some x ≡ slice_get (frames_at m t spots r) number
  first_numbered x number none x_is = ap (λ f. Some f) x_is ∙ number_in 0 ∙ ap (slice_get (frames_at m t spots r)) (sym none)

  pub none_numbered : (number outer : ℕ) → number ≡ suc outer → k.place.function ≡ 0 → None ≡ slice_get (frames_at m t spots r) number
  none_numbered number outer next none =
      sym (ap (λ l. slice_get l outer) (outer_none none)) ∙ number_in (suc outer) ∙ ap (slice_get (frames_at m t spots r)) (sym next)

  pub outer_numbered : (number outer : ℕ) (place : Option Place) → number ≡ suc outer → k.place.function ≢ 0 → place ≡ slice_get (calls_from (reverse calls) k.call) outer
      → option_map (frame_at m t r) place ≡ slice_get (frames_at m t spots r) number
  outer_numbered number outer place next some is_place =
      ap (option_map (frame_at m t r)) is_place
      ∙ sym (slice_get-map (frame_at m t r) (calls_from (reverse calls) k.call) outer)
      ∙ sym (ap (λ l. slice_get l outer) (outer_some some))
      ∙ number_in (suc outer)
      ∙ ap (slice_get (frames_at m t spots r)) (sym next)

-- ---- the frames of a stack

-- those of the calls below a depth, with the call of that depth
call_more : (m : Accepted) (t : Tables) (spots : Spots) (fs : List Frame) (start d n : ℕ) → n ≡ start + d
    → frames_from m t spots start (take (suc d) fs) ≡ option_map_or (frames_at m t spots) (option_map (real_of n) (slice_get fs d)) [] ++ frames_from m t spots start (take d fs)
call_more m t spots [] start zero n at = refl
call_more m t spots [] start (suc d) n at = refl
call_more m t spots (f ∷ fs) start zero n at =
    let here : start ≡ n = omega arith in
    ap (λ k. frames_at m t spots (real_of k f)) here ∙ sym (append-nil (frames_at m t spots (real_of n f)))
call_more m t spots (f ∷ fs) start (suc d) n at =
    let call = option_map_or (frames_at m t spots) (option_map (real_of n) (slice_get fs d)) [] in
    ap (λ l. l ++ frames_at m t spots (real_of start f)) (call_more m t spots fs (suc start) d n (omega arith))
    ∙ append_assoc call (frames_from m t spots (suc start) (take d fs)) (frames_at m t spots (real_of start f))

pub below_more : (m : Accepted) (t : Tables) (spots : Spots) (fs : List Frame) (d : ℕ) (call : Option Real) → call ≡ option_map (real_of d) (slice_get fs d)
    → frames_from m t spots 0 (take (suc d) fs) ≡ option_map_or (frames_at m t spots) call [] ++ frames_from m t spots 0 (take d fs)
below_more m t spots fs d call is =
    let at : d ≡ 0 + d = omega arith in
    call_more m t spots fs 0 d d at ∙ sym (ap (λ c. option_map_or (frames_at m t spots) c [] ++ frames_from m t spots 0 (take d fs)) is)

-- one call more, where those below it are left
pub call_put : (m : Accepted) (t : Tables) (spots : Spots) (fs : List Frame) (depth d : ℕ) (call : Option Real) (old new whole : List ShownFrame) → depth ≡ suc d → call ≡ option_map (real_of d) (slice_get fs d)
    → new ≡ old ++ option_map_or (frames_at m t spots) call [] → old ++ frames_from m t spots 0 (take depth fs) ≡ whole → new ++ frames_from m t spots 0 (take d fs) ≡ whole
call_put m t spots fs depth d call old new whole next is put h =
    ap (λ l. l ++ frames_from m t spots 0 (take d fs)) put
    ∙ append_assoc old (option_map_or (frames_at m t spots) call []) (frames_from m t spots 0 (take d fs))
    ∙ ap (λ l. old ++ l) (sym (below_more m t spots fs d call is))
    ∙ ap (λ n. old ++ frames_from m t spots 0 (take n fs)) (sym next)
    ∙ h

-- ---- the innermost one

-- the first of the top call
pub innermost_is : (m : Accepted) (t : Tables) (spots : Spots) (fs : List Frame) (f : Frame) → slice_get fs (length fs - 1) ≡ Some f
    → slice_get (frames_from m t spots 0 fs) 0 ≡ Some (first_frame m t (real_of (length fs - 1) f) (spot_in spots f.pc))
innermost_is m t spots fs f top =
    let d = length fs - 1 in
    let whole : take (suc d) fs ≡ fs = take_all (suc d) fs (omega arith) in
    sym (ap (λ l. slice_get (frames_from m t spots 0 l) 0) whole)
    ∙ ap (λ l. slice_get l 0) (below_more m t spots fs d (Some (real_of d f)) (sym (ap (option_map (real_of d)) top)))

-- where there is no top call, there is no frame
pub innermost_none : (m : Accepted) (t : Tables) (spots : Spots) (fs : List Frame) → slice_get fs (length fs - 1) ≡ None → slice_get (frames_from m t spots 0 fs) 0 ≡ None
innermost_none m t spots [] none = refl
innermost_none m t spots (f ∷ fs) none = let found = element_at (f ∷ fs) (length (f ∷ fs) - 1) (omega arith) in let some : None ≡ Some found.0 = sym none ∙ found.1 in absurd (cc)
