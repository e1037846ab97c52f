-- Where the bits of a watch lie, and that they are the same there.
use Rattle.std.proofs.Common.{◌≡◌, ◌∙◌, ap, sym, subst, ℕ, cond, Option, Some, None}
use Rattle.spv_dbg.specs.declared.frames.ShownFrame.{ShownFrame}
use Rattle.spv_dbg.specs.Tables.{Tables}
use Rattle.spv_expr.specs.Sources.{IsSource, ReadsSame}
use Rattle.spv_expr.specs.declared.sources.Source.{Source}
use Rattle.spv_frame.specs.Stacks.{Stacked}
use Rattle.spv_mem.specs.Memory.{Held as Memory}
use Rattle.spv_state.specs.State.{State, frames_of}
use Rattle.spv_stops.specs.Watches.{WatchKey}
use Rattle.spv_hits.specs.Kept.{Holds, IsAlike, Lies}
use Rattle.spv_hits.specs.Watches.{frame_of, is_there, watched_in}
use Rattle.spv_hits.specs.declared.places.Place.{Place}
use Rattle.spv_hits.proofs.ReadLemmas.{bits_elsewhere}

-- those of which a source is known
pub lies_by : (t : Tables) (k : WatchKey) (place : Place) (m : Memory) (s : Stacked) (f : Option ShownFrame) (v first count : ℕ) (source : Source) → f ≡ frame_of k → v ≡ k.variable → first ≡ k.first → count ≡ k.count
    → IsSource t s f v first count source → ((n : Memory) → Holds t k place n → ReadsSame source k.inv m n) → Lies t k place m s.frames
lies_by t k place m s f v first count source frame variable from many is reads n held =
    let here : IsSource t s (frame_of k) v first count source = subst (λ x. IsSource t s x v first count source) frame is in
    let of : IsSource t s (frame_of k) k.variable first count source = subst (λ x. IsSource t s (frame_of k) x first count source) variable here in
    let begins : IsSource t s (frame_of k) k.variable k.first count source = subst (λ x. IsSource t s (frame_of k) k.variable x count source) from of in
    let ends : IsSource t s (frame_of k) k.variable k.first k.count source = subst (λ x. IsSource t s (frame_of k) k.variable k.first x source) many begins in
    ap (λ bits. cond (is_there k s.frames) (Some bits) None) (bits_elsewhere _ _ k.first k.first k.count (λ j l. sym (ends k.inv m n (reads n held) j l)))

-- ---- from one state to another

module _ (t : Tables) (k : WatchKey) (s u : State) (alike : IsAlike t k s u) where
  pub same_by_memory : s.memory ≡ u.memory → watched_in t k s.memory (frames_of s k.inv) ≡ watched_in t k u.memory (frames_of u k.inv)
  same_by_memory same = alike s.memory ∙ ap (λ m. watched_in t k m (frames_of u k.inv)) same

  -- they lie there still
  pub lies_still : (place : Place) → watched_in t k s.memory (frames_of s k.inv) ≡ watched_in t k u.memory (frames_of u k.inv) → Lies t k place s.memory (frames_of s k.inv) → Lies t k place u.memory (frames_of u k.inv)
  lies_still place same lies n held = sym (alike n) ∙ lies n held ∙ same
