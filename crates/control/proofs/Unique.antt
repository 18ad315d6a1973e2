-- Every public contract of this crate leaves one result: any two that it allows are equal.
use Rattle.base.proofs.Unique.{Unique, same}
use Rattle.control.proofs.Control.fresh.Kinds as fresh_kinds
use Rattle.control.proofs.Control.fresh.Reads as fresh_reads
use Rattle.control.proofs.Control.in_phase.Kinds as in_phase_kinds
use Rattle.control.proofs.Control.in_phase.Reads as in_phase_reads
use Rattle.control.proofs.Control.showing.Kinds as showing_kinds
use Rattle.control.proofs.Control.showing.Reads as showing_reads
use Rattle.control.proofs.Control.choosing.Kinds as choosing_kinds
use Rattle.control.proofs.Control.choosing.Reads as choosing_reads
use Rattle.control.proofs.Control.arraycounter_at.Kinds as arraycounter_at_kinds
use Rattle.control.proofs.Control.arraycounter_at.Reads as arraycounter_at_reads
use Rattle.control.proofs.Control.securitycounter_at.Kinds as securitycounter_at_kinds
use Rattle.control.proofs.Control.securitycounter_at.Reads as securitycounter_at_reads
use Rattle.control.proofs.Control.idlocked_now.Kinds as idlocked_now_kinds
use Rattle.control.proofs.Control.idlocked_now.Reads as idlocked_now_reads
use Rattle.control.proofs.Control.configured.Kinds as configured_kinds
use Rattle.control.proofs.Control.configured.Reads as configured_reads
use Rattle.control.proofs.Control.wp_at.Kinds as wp_at_kinds
use Rattle.control.proofs.Control.wp_at.Reads as wp_at_reads
use Rattle.control.proofs.Control.acked.Kinds as acked_kinds
use Rattle.control.proofs.Control.acked.Reads as acked_reads
use Rattle.control.proofs.Control.silent.Kinds as silent_kinds
use Rattle.control.proofs.Control.silent.Reads as silent_reads
use Rattle.control.proofs.Control.occupied.Kinds as occupied_kinds
use Rattle.control.proofs.Control.occupied.Reads as occupied_reads
use Rattle.control.proofs.Control.stays.Kinds as stays_kinds
use Rattle.control.proofs.Control.stays.Reads as stays_reads
use Rattle.control.proofs.Control.standby_now.Kinds as standby_now_kinds
use Rattle.control.proofs.Control.standby_now.Reads as standby_now_reads
use Rattle.control.proofs.Control.busy_now.Kinds as busy_now_kinds
use Rattle.control.proofs.Control.busy_now.Reads as busy_now_reads
use Rattle.control.proofs.Control.powered_up.Kinds as powered_up_kinds
use Rattle.control.proofs.Control.powered_up.Reads as powered_up_reads
use Rattle.control.proofs.phase.is_busy.Kinds as is_busy_kinds
use Rattle.control.proofs.phase.is_busy.Reads as is_busy_reads
use Rattle.control.proofs.phase.is_sending.Kinds as is_sending_kinds
use Rattle.control.proofs.phase.is_sending.Reads as is_sending_reads
use Rattle.control.proofs.phase.is_taking.Kinds as is_taking_kinds
use Rattle.control.proofs.phase.is_taking.Reads as is_taking_reads
use Rattle.control.proofs.phase.is_awaiting.Kinds as is_awaiting_kinds
use Rattle.control.proofs.phase.is_awaiting.Reads as is_awaiting_reads
use Rattle.control.proofs.phase.awaits_address.Kinds as awaits_address_kinds
use Rattle.control.proofs.phase.awaits_address.Reads as awaits_address_reads
use Rattle.control.proofs.phase.takes_data.Kinds as takes_data_kinds
use Rattle.control.proofs.phase.takes_data.Reads as takes_data_reads

pub fresh_unique : Unique fresh_kinds.ps fresh_kinds.r fresh_reads.Post
fresh_unique κs args x y at_x at_y = same

pub in_phase_unique : Unique in_phase_kinds.ps in_phase_kinds.r in_phase_reads.Post
in_phase_unique κs args x y at_x at_y = same

pub showing_unique : Unique showing_kinds.ps showing_kinds.r showing_reads.Post
showing_unique κs args x y at_x at_y = same

pub choosing_unique : Unique choosing_kinds.ps choosing_kinds.r choosing_reads.Post
choosing_unique κs args x y at_x at_y = same

pub arraycounter_at_unique : Unique arraycounter_at_kinds.ps arraycounter_at_kinds.r arraycounter_at_reads.Post
arraycounter_at_unique κs args x y at_x at_y = same

pub securitycounter_at_unique : Unique securitycounter_at_kinds.ps securitycounter_at_kinds.r securitycounter_at_reads.Post
securitycounter_at_unique κs args x y at_x at_y = same

pub idlocked_now_unique : Unique idlocked_now_kinds.ps idlocked_now_kinds.r idlocked_now_reads.Post
idlocked_now_unique κs args x y at_x at_y = same

pub configured_unique : Unique configured_kinds.ps configured_kinds.r configured_reads.Post
configured_unique κs args x y at_x at_y = same

pub wp_at_unique : Unique wp_at_kinds.ps wp_at_kinds.r wp_at_reads.Post
wp_at_unique κs args x y at_x at_y = same

pub acked_unique : Unique acked_kinds.ps acked_kinds.r acked_reads.Post
acked_unique κs args x y at_x at_y = same

pub silent_unique : Unique silent_kinds.ps silent_kinds.r silent_reads.Post
silent_unique κs args x y at_x at_y = same

pub occupied_unique : Unique occupied_kinds.ps occupied_kinds.r occupied_reads.Post
occupied_unique κs args x y at_x at_y = same

pub stays_unique : Unique stays_kinds.ps stays_kinds.r stays_reads.Post
stays_unique κs args x y at_x at_y = same

pub standby_now_unique : Unique standby_now_kinds.ps standby_now_kinds.r standby_now_reads.Post
standby_now_unique κs args x y at_x at_y = same

pub busy_now_unique : Unique busy_now_kinds.ps busy_now_kinds.r busy_now_reads.Post
busy_now_unique κs args x y at_x at_y = same

pub powered_up_unique : Unique powered_up_kinds.ps powered_up_kinds.r powered_up_reads.Post
powered_up_unique κs args x y at_x at_y = same

pub is_busy_unique : Unique is_busy_kinds.ps is_busy_kinds.r is_busy_reads.Post
is_busy_unique κs args x y at_x at_y = same

pub takes_data_unique : Unique takes_data_kinds.ps takes_data_kinds.r takes_data_reads.Post
takes_data_unique κs args x y at_x at_y = same

pub is_sending_unique : Unique is_sending_kinds.ps is_sending_kinds.r is_sending_reads.Post
is_sending_unique κs args x y at_x at_y = same

pub is_taking_unique : Unique is_taking_kinds.ps is_taking_kinds.r is_taking_reads.Post
is_taking_unique κs args x y at_x at_y = same

pub is_awaiting_unique : Unique is_awaiting_kinds.ps is_awaiting_kinds.r is_awaiting_reads.Post
is_awaiting_unique κs args x y at_x at_y = same

pub awaits_address_unique : Unique awaits_address_kinds.ps awaits_address_kinds.r awaits_address_reads.Post
awaits_address_unique κs args x y at_x at_y = same
