use Rattle.std.proofs.Common.{◌∙◌, ◌++◌, ℕ, List, Option, sym, ap}
use Rattle.std.specs.Prelude.{option_copied}
use Rattle.spv_cmd.specs.Paths.{path_text}
use Rattle.spv_dbg.specs.declared.frames.ShownFrame.{ShownFrame}
use Rattle.spv_paths.specs.Kept.{kept_answer, kept_named}
use Rattle.spv_session.specs.Variables.{key_in, part_text, value_line}
use Rattle.spv_session.specs.View.{Viewing}
use Rattle.spv_session.proofs.SightLemmas.{watch_found}
use Rattle.spv_session.proofs.session.Core.watched_part.Goals as goal

pub returns : goal.returns
returns c =
    let n = kept_named c.in-Ok.named in
    let frame = c.as_ref-frame.ensures.value ∙ c.in_ok-selected.ensures in
    watch_found c.args.self.now.view c.sight-sight.result.tables.now c.sight-sight.result.memory.now c.sight-sight.result.inv c.sight-sight.result.stack.now (option_copied c.sight-sight.result.frame)
    c.sight-sight.ensures.tables c.sight-sight.ensures.memory c.sight-sight.ensures.inv c.sight-sight.ensures.stack
    c.args.path.now c.args.name.now c.args.parts.now n c.key_of-key.result c.push_path.new.text.items
    (ap option_copied c.sight-sight.ensures.frame ∙ frame) (sym (ap kept_answer c.in-Ok.is) ∙ c.in_ok-refusal.ensures)
    (c.key_of-key.ensures ∙ ap (λ (x : Viewing). key_in x.view.focus (option_copied c.as_ref-frame.result) n) c.self.view_is ∙ ap (λ (f : Option ShownFrame). key_in c.args.self.now.view.focus f n) frame)
    (c.in_ok-push_path-in-Ok.ensures ∙ ap (λ (l : List ℕ). l ++ value_line (path_text c.args.path.now) (part_text c.sight-sight.result.tables.now c.sight-sight.result.memory.now c.sight-sight.result.inv c.sight-sight.result.stack.now (option_copied c.sight-sight.result.frame) n)) c.new-line.ensures.items)
