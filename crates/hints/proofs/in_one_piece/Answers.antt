use native.Mathlib.Omega.{arith}
use Rattle.hints.proofs.Pieces.{one_piece, two_piece}
use Rattle.hints.proofs.in_one_piece.Goals as goal

pub returns-then-address-le224 : goal.returns-then-address-le224
returns-then-address-le224 c =
    λ l. one_piece c.args.keys.now c.args.order.now c.args.words.now c.args.page.0 c.args.address.0 c.hinted-s.result (c.hinted-s.ensures l) l c.if-address-le224.true

pub returns : goal.returns
returns c =
    λ l. two_piece c.args.keys.now c.args.order.now c.args.words.now c.args.page.0 c.args.address.0 c.hinted-s.result (c.hinted-s.ensures l) l c.requires (omega (arith, c.well_formed.1.1.1.1)) c.if-address-le224.false c.next_to.result c.if-next_to-c.false (c.next_to.ensures c.if-next_to-c.false)
