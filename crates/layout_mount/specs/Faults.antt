-- The fault of a mount that a fault of its store is.
use Rattle.store_form.specs.declared.store.StoreFault.{StoreFault}
use Rattle.store_form.specs.declared.store.StoreFault.TheVariants as store
use Rattle.layout_mount.specs.declared.mounting.MountFault.{MountFault}
use Rattle.layout_mount.specs.declared.mounting.MountFault.TheVariants as mount

-- the store failed, or power was lost
abbrev pub mount_fault : StoreFault → MountFault
mount_fault store.Failed = mount.Failed
mount_fault store.PowerLost = mount.PowerLost
