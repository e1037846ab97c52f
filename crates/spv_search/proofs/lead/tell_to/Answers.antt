use Rattle.std.proofs.Common.{◌≤◌, ◌∙◌, ℕ, List, [], ap, sym, subst}
use Rattle.spv_base.specs.declared.happenings.Happening.{Happening}
use Rattle.spv_state.specs.Program.{Program}
use Rattle.spv_group.specs.Group.{Held as Group, end_in, group_at}
use Rattle.spv_search.proofs.PastLemmas.{past_is}
use Rattle.spv_search.proofs.lead.tell_to.Goals as goal

pub tell_back-requires : goal.tell_back-requires
tell_back-requires g c =
    let was = c.args.group.now.group in
    let target : ℕ = c.args.target in
    let events : List Happening = c.back_to.new.witness.events.items in
    let there = c.in_ok-back_to.ensures.target in
    let accepted = c.accepted.ensures.module ∙ ap (λ (p : Program). p.accepted) c.module.ensures ∙ ap (λ (x : Group). x.program.accepted) there in
    let within : was.position ≤ end_in was = subst (λ (n : ℕ). n ≤ end_in was) c.position.ensures.position c.position.ensures.within in
    let most : was.position ≤ 4194304 = subst (λ (n : ℕ). n ≤ 4194304) c.position.ensures.position c.position.ensures.most in
    let told = c.in_ok-back_to.ensures.told [] c.in_ok-past.ensures in
    let past = past_is c.accepted.result.now was target events accepted c.requires.target within most told in
    (group_at target was, past.0, c.requires.suits, subst (λ (n : ℕ). g.H.Hits.follows c.args.hits.now (group_at n was)) (sym past.1) c.requires.follows)

pub returns-clause-follows : goal.returns-clause-follows
returns-clause-follows g c =
    let was = c.args.group.now.group in
    let target : ℕ = c.args.target in
    let events : List Happening = c.back_to.new.witness.events.items in
    let there = c.in_ok-back_to.ensures.target in
    let accepted = c.accepted.ensures.module ∙ ap (λ (p : Program). p.accepted) c.module.ensures ∙ ap (λ (x : Group). x.program.accepted) there in
    let within : was.position ≤ end_in was = subst (λ (n : ℕ). n ≤ end_in was) c.position.ensures.position c.position.ensures.within in
    let most : was.position ≤ 4194304 = subst (λ (n : ℕ). n ≤ 4194304) c.position.ensures.position c.position.ensures.most in
    let told = c.in_ok-back_to.ensures.told [] c.in_ok-past.ensures in
    let past = past_is c.accepted.result.now was target events accepted c.requires.target within most told in
    subst (g.H.Hits.follows c.tell_back.new.hits) (sym there)
    (c.tell_back.ensures.follows (group_at target was) past.0 c.requires.suits (subst (λ (n : ℕ). g.H.Hits.follows c.args.hits.now (group_at n was)) (sym past.1) c.requires.follows))
