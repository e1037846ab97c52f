use Rattle.std.proofs.Common.{◌∙◌, ◌&&◌, ap, sym, eqb}
use Rattle.std.specs.List.{list_any}
use Rattle.spv_setup.proofs.IndexLemmas.{one_more}
use Rattle.spv_setup.proofs.reading.Reader.add_buffer.Goals as goal

pub returns-clause-indexed : goal.returns-clause-indexed
returns-clause-indexed c = record {
  by_id = c.requires.by_id;
  by_binding = λ set binding. one_more c.args.self.now.settings.buffers (record { line = c.args.line; set = c.args.set; binding = c.args.binding; content = c.args.content }) set binding _ _ (c.in_ok-insert.ensures.updates.0 (set, binding)) (c.requires.by_binding set binding)
      ∙ ap (list_any (λ b. eqb b.set set && eqb b.binding binding)) (sym c.in_ok-push.ensures.ok);
}
