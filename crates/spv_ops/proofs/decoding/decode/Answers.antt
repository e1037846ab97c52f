use Rattle.std.proofs.Common.{List, ℕ, subst}
use Rattle.spv_base.specs.Answers.{Answers}
use Rattle.spv_ops.specs.Reading.{inst_of}
use Rattle.spv_ops.proofs.InstLaws.{only, refused}
use Rattle.spv_ops.proofs.decoding.decode.Goals as goal

-- the answer that is due for these words
answers : (c : goal.After-inst_at) → Answers (inst_of c.args.r.now) c.inst_at.result
answers c = subst (λ (ws : List ℕ). Answers (inst_of (record { word = c.args.r.now.word; op = c.args.r.now.op; rest = ws })) c.inst_at.result) c.as_slice.ensures c.inst_at.ensures.answers

pub returns-clause-only : goal.returns-clause-only
returns-clause-only c = only c.args.r.now c.inst_at.result (answers c)

pub returns-clause-refused : goal.returns-clause-refused
returns-clause-refused c = refused c.args.r.now c.inst_at.result (answers c)
