use Rattle.signer_service.proofs.Pieces.{by_four}
use Rattle.signer_service.proofs.metrics.put_arguments.Goals as goal

pub returns-clause-items : goal.returns-clause-items
returns-clause-items c = by_four _ _ _ _ _ _ _ _ _ c.put_field.ensures.items c.put_field-2.ensures.items c.put_field-3.ensures.items c.put_field-4.ensures.items
