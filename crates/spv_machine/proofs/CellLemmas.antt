-- What a predecoded instruction does is what a step does.
use Rattle.std.proofs.Common.{◌≡◌, ◌∙◌, ℕ, ◌<◌, ◌≤◌, [], Bool, true, false, if◌then◌else◌, Some, IsSome, Ok, length, refl, sym, ap, subst, arith}
use Rattle.std.specs.Prelude.{unwrap_or, Option}
use Rattle.std.specs.Option.{IsSomeAnd, option_and_then}
use Rattle.spv_base.specs.Entries.{reads}
use Rattle.spv_base.specs.declared.happenings.Happening.{Happening}
use Rattle.spv_base.specs.declared.happenings.Kind.TheVariants.{Write}
use Rattle.spv_base.specs.declared.instructions.Inst.{Inst}
use Rattle.spv_base.specs.declared.values.Root.{Root}
use Rattle.spv_base.specs.declared.values.Root.TheVariants.{Local, Private, Shared}
use Rattle.spv_index.specs.Definitions.{at}
use Rattle.spv_frame.specs.Frames.{Held as Frame}
use Rattle.spv_valid.specs.Acceptance.{Accepted}
use Rattle.spv_actions.specs.Cells.{full}
use Rattle.spv_sites.specs.Effects.{Control, Next}
use Rattle.spv_sites.specs.Instructions.{effect_of}
use Rattle.spv_actions.specs.declared.cells.CellEffect.{CellEffect}
use Rattle.spv_actions.specs.declared.cells.CellEffect.TheVariants.{Gives, Sets}
use Rattle.spv_sites.proofs.Exports.{register_stays}
use Rattle.spv_journal.specs.Held.{Held as Recorded, KeepsEvent}
use Rattle.spv_state.specs.Events.{captures_before, pass}
use Rattle.spv_state.specs.Program.{Program}
use Rattle.spv_state.specs.State.{State, on_frame, top_of, with_pc, with_register}
use Rattle.spv_machine.specs.Cells.{IsCellStep}
use Rattle.spv_machine.specs.Reached.{IsReached}
use Rattle.spv_machine.specs.Recording.{Made}
use Rattle.spv_machine.specs.Step.{Moves, apply, go, go_on, happening_of, is_written, next_of, outcome, plain, put, step_of, written}
use Rattle.spv_machine.specs.Weights.{effect_weight, result_weight, weight_of}
use Rattle.spv_machine.specs.declared.cells.CellStep.{CellStep}
use Rattle.spv_machine.specs.declared.execution.Did.TheVariants.{Moved}
use Rattle.spv_machine.proofs.EventLemmas.{happening_inv}
use Rattle.spv_machine.proofs.StatusSteps.{moved_is, reached_inside, reached_step}
use Rattle.spv_machine.proofs.PassedLemmas.{none_due, none_passed}
use Rattle.spv_machine.proofs.ReachedLemmas.{frame_changed, word_is}
use Rattle.spv_machine.proofs.WeightLemmas.{reached_weight}

-- the top frame of an invocation that has reached an instruction stands there
pub stands_at : (p : Program) (s : State) (i : ℕ) (d : Inst) (f : Frame) → IsReached p s i d → top_of s i ≡ Some f → at p.accepted.insts f.pc ≡ Some d
stands_at p s i d f r is =
    let same : r.frame ≡ f = let own = r.top in cc in
    subst (λ (x : Frame). at p.accepted.insts x.pc ≡ Some d) same r.at

pub word_at : (p : Program) (s : State) (i : ℕ) (d : Inst) (f : Frame) → IsReached p s i d → top_of s i ≡ Some f → f.pc ≡ d.word
word_at p s i d f r is =
    let same : r.frame ≡ f = let own = r.top in cc in
    ap (λ (x : Frame). x.pc) (sym same) ∙ sym (word_is p s i d r)

-- ---- the value, put

goes_on : (e : CellEffect) → (full e).control ≡ Next
goes_on (Gives slot v) = refl
goes_on (Sets root v) = refl

-- the top frame stands where it stood
put_top : (e : CellEffect) (s : State) (i id : ℕ) (f : Frame) → top_of s i ≡ Some f → (g : Frame) × (top_of (put i id (full e) s) i ≡ Some g) × (g.pc ≡ f.pc)
put_top (Gives slot v) s i id f is = (with_register id v f, frame_changed s i (with_register id v) f is, (register_stays f id v).1)
put_top (Sets root v) s i id f is = (f, is, refl)

some_frame : (o : Option Frame) (f : Frame) → o ≡ Some f → IsSome o
some_frame o f is = subst (λ (x : Option Frame). IsSome x) (sym is) refl

-- ---- to the executable behind it, before which no debug instruction stands

moves_on : (a : Accepted) (s : State) (i word : ℕ) (f : Frame) → top_of s i ≡ Some f → reads f.pc a.flow.nexts ≡ Some (Some word) → captures_before a word ≡ [] → on_frame i (with_pc word) s ≡ go_on a i s
moves_on a s i word f is next silent =
    let there : word ≡ next_of a f.pc = ap (λ (o : Option (Option ℕ)). unwrap_or (option_and_then (λ (n : Option ℕ). n) o) 0) (sym next) in
    none_passed a (on_frame i (with_pc word) s) i (none_due a s i word (some_frame (top_of s i) f is) silent) ∙ ap (pass a i) (moved_is a s i word f is there)

-- ---- the step

module _ (p : Program) (s : State) (i : ℕ) (d : Inst) (step : CellStep) (r : IsReached p s i d) (is : IsCellStep p s i d step) where
  frame_is : r.frame ≡ is.frame
  frame_is = let one = r.top in let two = is.top in cc

  pub cell_moves : step_of p s i ≡ Moves (happening_of p s i d.word (full step.effect)) (apply p i d (full step.effect) s)
  cell_moves = reached_step p s i d r ∙ ap (λ (x : Frame). outcome p s i d (effect_of p s i x d)) frame_is ∙ ap (outcome p s i d) is.effect.due

  pub cell_weighs : weight_of p s i ≡ effect_weight p s i d (full step.effect)
  cell_weighs = reached_weight p s i d r ∙ ap (λ (x : Frame). result_weight p s i d (effect_of p s i x d)) frame_is ∙ ap (result_weight p s i d) is.effect.due

  pub put_moved : (t : State) → t ≡ put i d.id (full step.effect) s → on_frame i (with_pc step.next) t ≡ apply p i d (full step.effect) s
  put_moved t is_put =
      let a = p.accepted in
      let e = full step.effect in
      let top = put_top step.effect s i d.id r.frame r.top in
      let next : reads top.0.pc a.flow.nexts ≡ Some (Some step.next) = ap (λ (n : ℕ). reads n a.flow.nexts) (top.2 ∙ sym (word_is p s i d r)) ∙ is.next in
      ap (on_frame i (with_pc step.next)) is_put ∙ moves_on a (put i d.id e s) i step.next top.0 top.1 next is.silent
      ∙ ap (λ (c : Control). go p i d.word c (put i d.id e s)) (sym (goes_on step.effect))

-- ---- the event

written_word : (a : Accepted) (i word : ℕ) (root : Root) → (written a i word root).word ≡ word
written_word a i word (Shared id) = by_class (is_written a id)
  where
    by_class : (b : Bool) → (if b then record { inv = i; kind = Write; word = word; root = id; line = 0 } else plain i word).word ≡ word
    by_class true = refl
    by_class false = refl
written_word a i word (Private id) = refl
written_word a i word (Local depth id) = refl

happening_word : (p : Program) (s : State) (i word : ℕ) (e : CellEffect) → (happening_of p s i word (full e)).word ≡ word
happening_word p s i word (Gives slot v) = refl
happening_word p s i word (Sets root v) = written_word p.accepted i word root

-- it is one of the invocation, whose top frame stands at its word
pub record StandsFor (s : State) (i : ℕ) (h : Happening) : Type 0 where
  pub inv : h.inv ≡ i
  pub inside : h.inv < length s.stacks
  pub stands : IsSomeAnd (top_of s h.inv) (λ f. f.pc ≡ h.word)

pub stands_for : (p : Program) (s : State) (i : ℕ) (d : Inst) (step : CellStep) (h : Happening) → IsReached p s i d → IsCellStep p s i d step → h ≡ happening_of p s i step.word (full step.effect) → StandsFor s i h
stands_for p s i d step h r is happens =
    let inv : h.inv ≡ i = ap (λ (x : Happening). x.inv) happens ∙ happening_inv p s i step.word (full step.effect) in
    let word : h.word ≡ step.word = ap (λ (x : Happening). x.word) happens ∙ happening_word p s i step.word step.effect in
    let here : is.frame.pc ≡ h.word = word_at p s i d is.frame r is.top ∙ sym is.word ∙ sym word in
    record {
      inv = inv;
      inside = subst (λ (n : ℕ). n < length s.stacks) (sym inv) (reached_inside p s i d r);
      stands = subst (λ (n : ℕ). IsSomeAnd (top_of s n) (λ f. f.pc ≡ h.word)) (sym inv) (subst (λ (o : Option Frame). IsSomeAnd o (λ f. f.pc ≡ h.word)) (sym is.top) here);
    }

-- what is so of the top frame
pub of_top : (P : Frame → Type 0) (s : State) (i j : ℕ) (f : Frame) → j ≡ i → top_of s i ≡ Some f → P f → IsSomeAnd (top_of s j) P
of_top P s i j f same is holds = subst (λ (n : ℕ). IsSomeAnd (top_of s n) P) (sym same) (subst (λ (o : Option Frame). IsSomeAnd o P) (sym is) holds)

pub cell_made : (p : Program) (old new : Recorded) (i : ℕ) (d : Inst) (step : CellStep) (h : Happening) → IsReached p old.state i d → IsCellStep p old.state i d step → h ≡ happening_of p old.state i step.word (full step.effect)
    → new.state ≡ on_frame h.inv (with_pc step.next) (put h.inv d.id (full step.effect) old.state) → KeepsEvent 2 h old new
    → Made (happening_of p old.state i d.word (full step.effect)) (apply p i d (full step.effect) old.state) (effect_weight p old.state i d (full step.effect)) (Ok (Moved h)) old new
cell_made p old new i d step h r is happens reaches kept =
    let s = old.state in
    let e = full step.effect in
    let inv = (stands_for p s i d step h r is happens).inv in
    let same : h ≡ happening_of p s i d.word e = happens ∙ ap (λ (n : ℕ). happening_of p s i n e) is.word in
    let few = kept.few in
    let fits : 4 ≤ effect_weight p s i d e = omega arith in (
      same,
      reaches ∙ ap (λ (n : ℕ). on_frame n (with_pc step.next) (put n d.id e s)) inv ∙ put_moved p s i d step r is (put i d.id e s) refl,
      kept.gathered,
      record { event = kept.event; happening = kept.happening ∙ same; leads = kept.leads; small = omega (arith, few, fits); ring = kept.ring; limit = kept.limit },
    )
