use Rattle.std.proofs.Common.{◌≡◌, ◌∙◌, ℕ, List, [], ◌∷◌, ◌++◌, length, slice_get, Some, sym, ap, subst, arith}
use Rattle.spv_base.proofs.Exports.{get_snoc, last_get}
use Rattle.spv_dbg.proofs.Exports.{updated}
use Rattle.spv_scopes.specs.Shown.{string_in}
use Rattle.spv_scopes.proofs.FileLemmas.{AreNumbered, numbered_more}
use Rattle.spv_scopes.proofs.files.Files.number_of_name.Goals as goal

pub returns-in-Some-clause-number : goal.returns-in-Some-clause-number
returns-in-Some-clause-number c = λ t h. (h.named c.in-Some.number.now c.args.name.now).0 (sym c.in-Some.ensures.value)

pub returns-clause-files : goal.returns-clause-files
returns-clause-files c = λ t h.
    let name = c.args.name.now in
    let old = c.args.self.now in
    let list = c.in_ok-push.ensures.items ∙ ap (λ (x : List ℕ). old.list.items ++ x ∷ []) c.in_ok-text.ensures in
    let number : c.len-number.result ≡ length old.list.items = omega arith in
    let put = λ (cs : List ℕ). rw (c.in_ok-key.ensures.items, number) at (updated c.in_ok-key.key.items old.names c.insert.new.self (Some c.len-number.result) c.in_ok-insert.ensures.updates cs) in
    record {
      named = subst (AreNumbered c.insert.new.self) (sym list) (numbered_more old.names c.insert.new.self old.list.items name h.named (sym c.in_default.ensures.value) put);
      known = λ id n e. subst (λ (l : List (List ℕ)). slice_get l n ≡ Some (string_in t id)) (sym list) (get_snoc old.list.items name (string_in t id) n (h.known id n e));
    }

pub returns-clause-grows : goal.returns-clause-grows
returns-clause-grows c = λ n other e.
    let list = c.in_ok-push.ensures.items ∙ ap (λ (x : List ℕ). c.args.self.now.list.items ++ x ∷ []) c.in_ok-text.ensures in
    subst (λ (l : List (List ℕ)). slice_get l n ≡ Some other) (sym list) (get_snoc c.args.self.now.list.items c.args.name.now other n e)

pub returns-clause-number : goal.returns-clause-number
returns-clause-number c = λ t h.
    let name = c.args.name.now in
    let old = c.args.self.now in
    let list = c.in_ok-push.ensures.items ∙ ap (λ (x : List ℕ). old.list.items ++ x ∷ []) c.in_ok-text.ensures in
    let number : c.len-number.result ≡ length old.list.items = omega arith in
    subst (λ (l : List (List ℕ)). slice_get l c.len-number.result ≡ Some name) (sym list) (rw number (last_get old.list.items name))
