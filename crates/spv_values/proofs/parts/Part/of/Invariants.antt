use Rattle.spv_values.proofs.parts.Part.of.Given as goal

abbrev pub ghost-of : goal.ghost-of
ghost-of g a = g.value
