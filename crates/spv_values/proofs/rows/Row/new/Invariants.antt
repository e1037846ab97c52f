use Rattle.spv_values.proofs.rows.Row.new.Given as goal

abbrev pub ghost-of : goal.ghost-of
ghost-of g a = g.value
