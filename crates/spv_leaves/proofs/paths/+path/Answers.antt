use Rattle.std.proofs.Common.{◌≡◌, ◌∙◌, ◌++◌, ◌∷◌, ◌<◌, ◌/◌, ◌%◌, [], None, get_or, drop, arith, ap, append-nil, rules, sym}
use Rattle.std.specs.Option.{option_map}
use Rattle.spv_types.specs.Cells.{cells_of}
use Rattle.spv_types.specs.Types.{found_among}
use Rattle.spv_types.specs.declared.forms.Member.{Member}
use Rattle.spv_leaves.specs.Paths.{element_path, members_path, path_among}
use Rattle.spv_leaves.proofs.PathLemmas.{found_path, path_among_is, path_behind, path_end, path_here, path_last, pushed_all, some_element}
use Rattle.spv_leaves.proofs.paths.+path.Goals as goal
use Rattle.spv_leaves.proofs.paths.+path.Goals.{push_member-in_default-via-in-Some+else-cells-left, push_member-in_default-via-in_default}

pub push_member-push_among-requires : goal.push_member-push_among-requires
push_member-push_among-requires t c = (search rules, omega (arith, c.loop-k.invariant.left, c.requires))

pub push_among-returns-in-None : goal.push_among-returns-in-None
push_among-returns-in-None t c =
    let none : found_among c.args.types.now c.args.limit c.args.ty ≡ None = sym c.found.ensures ∙ ap (option_map (λ r. (r.0, r.1.now))) c.in-None.is in
    let here : path_among c.args.types.now c.args.limit c.args.ty c.args.leaf ≡ []
    = path_among_is c.args.types.now c.args.limit c.args.ty c.args.leaf ∙ ap (λ o. found_path c.args.types.now o c.args.leaf) none in
    sym (append-nil c.args.path.now) ∙ ap (λ p. c.args.path.now ++ p) (sym here)

pub push_element-returns-in_ok-push-in-Some : goal.push_element-returns-in_ok-push-in-Some
push_element-returns-in_ok-push-in-Some t c =
    let some : 0 < c.in-Some.cells = omega (arith, c.in-Some.cells-is) in
    let here = some_element (cells_of c.args.types.now) (path_among c.args.types.now c.args.limit) c.args.element c.args.leaf c.in-Some.cells c.requires (sym c.cells.ensures ∙ c.in-Some.is) some in
    let pushed = c.in_ok-push-in-Some.ensures.ok in
    pushed_all c.push_among.result c.args.path.now c.push.new.self c.push_among.new.path (path_among c.args.types.now c.args.limit c.args.element (c.args.leaf % c.in-Some.cells))
    (element_path (cells_of c.args.types.now) (path_among c.args.types.now c.args.limit) c.args.element c.args.leaf) (c.args.leaf / c.in-Some.cells) pushed c.push_among.ensures here

pub push_member-returns-in_default : goal.push_member-returns-in_default
push_member-returns-in_default t c =
    let cells = cells_of c.args.types.now in
    let path = path_among c.args.types.now c.args.limit in
    let d : Member = record { ty = 0; offset = None } in
    let here : members_path cells path c.loop-k.k (drop c.loop-k.k c.args.members.now) c.loop-k.left ≡ c.loop-k.k ∷ path (get_or c.args.members.now c.loop-k.k d).ty c.loop-k.left = elim c.in_default.branch [
      | push_member-in_default-via-in-Some+else-cells-left w ↦ path_here cells path c.args.members.now c.loop-k.k c.loop-k.k c.loop-k.left w.in-Some.cells d c.loop-k-test.true (sym c.cells.ensures ∙ w.in-Some.is) w.if-cells-left.false
      | push_member-in_default-via-in_default w ↦ path_last cells path c.args.members.now c.loop-k.k c.loop-k.k c.loop-k.left d c.loop-k-test.true (sym c.cells.ensures ∙ w.in_default.is)
    ] in
    let all = c.loop-k.invariant.same ∙ here in
    let pushed = c.in_ok-push-in_default.ensures.ok in
    pushed_all c.push_among.result c.args.path.now c.push.new.self c.push_among.new.path (path (get_or c.args.members.now c.loop-k.k d).ty c.loop-k.left)
    (members_path cells path 0 c.args.members.now c.args.leaf) c.loop-k.k (pushed ∙ ap (λ p. p ++ c.loop-k.k ∷ []) c.loop-k.invariant.path) c.push_among.ensures all

pub push_member-loop-k-preserved : goal.push_member-loop-k-preserved
push_member-loop-k-preserved t c = record {
  path = c.loop-k.invariant.path;
  left = omega (arith, c.loop-k.invariant.left);
  same = c.loop-k.invariant.same ∙ path_behind (cells_of c.args.types.now) (path_among c.args.types.now c.args.limit) c.args.members.now c.loop-k.k c.loop-k.k c.loop-k.left c.in-Some.cells _ c.loop-k-test.true (omega (arith, c.loop-k.invariant.left, c.requires)) (sym c.cells.ensures ∙ c.in-Some.is) c.if-cells-left.true;
}

pub push_member-returns : goal.push_member-returns
push_member-returns t c =
    let none = c.loop-k.invariant.same ∙ path_end (cells_of c.args.types.now) (path_among c.args.types.now c.args.limit) c.args.members.now c.loop-k.k c.loop-k.k c.loop-k.left (omega (arith, c.loop-k-test.false)) in
    c.loop-k.invariant.path ∙ sym (append-nil c.args.path.now) ∙ ap (λ p. c.args.path.now ++ p) (sym none)
