use Rattle.std.proofs.Common.{◌∙◌, ◌<◌, ◌++◌, ap, length, map, refl, subst, sym, true, false, arith}
use Rattle.std.proofs.lemmas.Option.{slice_get_read}
use Rattle.std.specs.List.{All}
use Rattle.spv_order.specs.Touches.{AreTouches, touch_of}
use Rattle.spv_order.specs.declared.events.Leaves.{Leaves}
use Rattle.spv_order.proofs.TouchLemmas.{touches_more, touches_none}
use Rattle.spv_order.proofs.touches.touches.Goals as goal

pub loop-k-init : goal.loop-k-init
loop-k-init c = subst (λ ts. AreTouches c.args.events.now 0 ts) (sym c.new-touches.ensures.items) (touches_none c.args.events.now)

pub loop-k-preserved : goal.loop-k-preserved
loop-k-preserved c =
    let xs = c.args.events.now in
    let k = c.loop-k.k in
    let e = c.index-events-k.result in
    let within : k < length xs = omega (arith, c.requires) in
    let reads = subst (λ rs. All (λ (r : Leaves). r.end < 4294967296) rs) c.deref.ensures.value c.in_ok-add.ensures.fits in
    let writes = subst (λ ws. All (λ (r : Leaves). r.end < 4294967296) ws) c.deref-in-loop-k.ensures.value c.in_ok-add-2.ensures.fits in
    let more = c.in_ok-add.ensures.more ∙ ap (λ rs. c.loop-k.touches.items ++ map (touch_of k e.invocation false) rs) c.deref.ensures.value in
    let all = c.in_ok-add-2.ensures.more ∙ ap (λ ts. ts ++ map (touch_of k e.invocation true) c.deref-in-loop-k.result.now) more
    ∙ ap (λ ws. (c.loop-k.touches.items ++ map (touch_of k e.invocation false) e.reads.items) ++ map (touch_of k e.invocation true) ws) c.deref-in-loop-k.ensures.value in
    touches_more xs k e c.loop-k.touches.items _ (slice_get_read xs (length xs) k e refl within c.index-events-k.is) reads writes all c.loop-k.invariant
