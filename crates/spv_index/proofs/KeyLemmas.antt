-- Maps to the first instruction under a key, from the last instruction back.
use Rattle.std.proofs.Common.{◌≡◌, ◌∙◌, ℕ, suc, ◌-◌, ◌<◌, ◌≤◌, ◌==◌, ◌&&◌, Bool, false, cond, List, length, get_or, drop, Option, Some, refl, arith, rules, tests}
use Rattle.std.specs.Prelude.{if◌then◌else◌}
use Rattle.std.specs.Ordering.{is_eq}
use Rattle.spv_base.specs.declared.instructions.Inst.{Inst}
use Rattle.spv_index.specs.Definitions.{number_from}
use Rattle.spv_index.specs.Keys.{is_pair, is_triple, pair_cmp, triple_cmp}
use Rattle.spv_index.proofs.ListLemmas.{drop_back}

pub same_pair : (a b c d : ℕ) → is_eq (pair_cmp (a, b) (c, d)) ≡ (a == c && b == d)
same_pair a b c d = search (tests, rules)

same_triple : (a b c d e f : ℕ) → is_eq (triple_cmp (a, b, c) (d, e, f)) ≡ ((a == d && b == e) && c == f)
same_triple a b c d e f = search (tests, rules)

-- one instruction more
pub back_more : (p : Inst → Bool) (insts : List Inst) (n : ℕ) (inst : Inst) (old new : Option ℕ) → 0 < n → n ≤ length insts → inst ≡ get_or insts (n - 1) inst
    → new ≡ (if p inst then Some (n - 1) else old) → old ≡ number_from n p (drop n insts) → new ≡ number_from (n - 1) p (drop (n - 1) insts)
back_more p insts n inst old new some le is new_is old_is =
    let s : suc (n - 1) ≡ n = omega arith in
    rw (drop_back insts n inst some le, ← is, s, ← old_is) new_is

pub pair_put : (key : ℕ × ℕ) (id kind v : ℕ) (passes : Bool) (new old : Option ℕ) → passes ≡ is_pair id kind (Some key) → new ≡ cond (is_eq (pair_cmp key (id, kind))) (Some v) old
    → new ≡ (if passes then Some v else old)
pair_put key id kind v passes new old e put = put ∙ rw (same_pair key.0 key.1 id kind, e) refl

pub triple_put : (key : ℕ × ℕ × ℕ) (id member kind v : ℕ) (passes : Bool) (new old : Option ℕ) → passes ≡ is_triple id member kind (Some key)
    → new ≡ cond (is_eq (triple_cmp key (id, member, kind))) (Some v) old → new ≡ (if passes then Some v else old)
triple_put key id member kind v passes new old e put = put ∙ rw (same_triple key.0 key.1 key.2 id member kind, e) refl

pub nothing_put : (v : ℕ) (passes : Bool) (old : Option ℕ) → passes ≡ false → old ≡ (if passes then Some v else old)
nothing_put v passes old e = rw e refl
