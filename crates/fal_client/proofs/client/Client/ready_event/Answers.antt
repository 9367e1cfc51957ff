use Rattle.std.proofs.Common.{subst}
use Rattle.fal_client.specs.declared.event.ClientEvent.{ClientEvent}
use Rattle.fal_client.specs.Step.{CanMake}
use Rattle.fal_client.proofs.client.Client.ready_event.Goals as goal

pub ready_send-requires : goal.ready_send-requires
ready_send-requires c = subst (λ (e : ClientEvent). CanMake c.args.self.now e) c.in-Send.is c.requires

pub ready_get-requires : goal.ready_get-requires
ready_get-requires c = subst (λ (e : ClientEvent). CanMake c.args.self.now e) c.in-Get.is c.requires
