use Rattle.std.proofs.lemmas.List.Elements.{All-contains}
use Rattle.spv_state.proofs.OperandRoots.{operand_root}
use Rattle.spv_state.proofs.RootLemmas.{finds, frame_rooted}
use Rattle.spv_state.proofs.TopLemmas.{top_sound}
use Rattle.spv_state.specs.Roots.{CapturesRoot}
use Rattle.spv_state.specs.State.{depth_of, frames_of}
use Rattle.spv_state.proofs.laws.pointers_find_their_variables.Goals as goal

pub returns-clause-registers : goal.returns-clause-registers
returns-clause-registers c = λ p s i depth id f q sound at read. finds p s sound i depth f at q ((frame_rooted p s sound i depth f at).registers id q read)

pub returns-clause-events : goal.returns-clause-events
returns-clause-events c = λ p s i depth f e q sound at among is.
    finds p s sound i depth f at q (All-contains (CapturesRoot p.accepted (frames_of s i) depth) f.events e (frame_rooted p s sound i depth f at).events among q is)

pub returns-clause-operands : goal.returns-clause-operands
returns-clause-operands c = λ p s i id ty f v q is sound at value type pointer.
    let rooted = frame_rooted p s sound i (depth_of s i) f at in
    finds p s sound i (depth_of s i) f at q
    (operand_root p.accepted is (c.accepted_modules_are_valid.ensures p.accepted is) (frames_of s i) (depth_of s i) id f at rooted (top_sound p s i f sound at).shaped ty type v q value pointer)
