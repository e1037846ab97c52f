use Rattle.spv_cfg.proofs.edges.edges_by.Goals as goal

pub returns : goal.returns
returns c =
    rw (c.as_slice-3.ensures.value, c.in_ok-once.ensures, c.as_slice-2.ensures.value, c.in_ok-kept.ensures, c.as_slice.ensures.value, c.in_ok-targets.ensures, c.selector_width.ensures)
    at c.edges_to.ensures
