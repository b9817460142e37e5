-- The objects and the places of both families, of links and of workspaces, as structs of one pointer.
use Rattle.mq_c.specs.contracts.igmp_objects.IgmpLink as IgmpLink
use Rattle.mq_c.specs.contracts.igmp_objects.IgmpLinkPlace as IgmpLinkPlace
use Rattle.mq_c.specs.contracts.igmp_objects.IgmpWorkspace as IgmpWorkspace
use Rattle.mq_c.specs.contracts.igmp_objects.IgmpWorkspacePlace as IgmpWorkspacePlace
use Rattle.mq_c.specs.contracts.mld_objects.MldLink as MldLink
use Rattle.mq_c.specs.contracts.mld_objects.MldLinkPlace as MldLinkPlace
use Rattle.mq_c.specs.contracts.mld_objects.MldWorkspace as MldWorkspace
use Rattle.mq_c.specs.contracts.mld_objects.MldWorkspacePlace as MldWorkspacePlace
use Rattle.mq_c.proofs.Pointing.{Pointing}

abbrev pub igmp_link : Pointing
igmp_link = record {
  name = IgmpLink.struct.name;
  D = IgmpLink.struct.D;
  as_values = IgmpLink.struct.as_values;
  Ghost = IgmpLink.struct.Ghost;
  ghosts = IgmpLink.struct.ghosts;
  make = IgmpLink.struct.make;
  eta = IgmpLink.struct.eta;
  beta = IgmpLink.struct.beta;
  codes = IgmpLink.the_codes;
}

abbrev pub igmp_link_place : Pointing
igmp_link_place = record {
  name = IgmpLinkPlace.struct.name;
  D = IgmpLinkPlace.struct.D;
  as_values = IgmpLinkPlace.struct.as_values;
  Ghost = IgmpLinkPlace.struct.Ghost;
  ghosts = IgmpLinkPlace.struct.ghosts;
  make = IgmpLinkPlace.struct.make;
  eta = IgmpLinkPlace.struct.eta;
  beta = IgmpLinkPlace.struct.beta;
  codes = IgmpLinkPlace.the_codes;
}

abbrev pub igmp_workspace : Pointing
igmp_workspace = record {
  name = IgmpWorkspace.struct.name;
  D = IgmpWorkspace.struct.D;
  as_values = IgmpWorkspace.struct.as_values;
  Ghost = IgmpWorkspace.struct.Ghost;
  ghosts = IgmpWorkspace.struct.ghosts;
  make = IgmpWorkspace.struct.make;
  eta = IgmpWorkspace.struct.eta;
  beta = IgmpWorkspace.struct.beta;
  codes = IgmpWorkspace.the_codes;
}

abbrev pub igmp_workspace_place : Pointing
igmp_workspace_place = record {
  name = IgmpWorkspacePlace.struct.name;
  D = IgmpWorkspacePlace.struct.D;
  as_values = IgmpWorkspacePlace.struct.as_values;
  Ghost = IgmpWorkspacePlace.struct.Ghost;
  ghosts = IgmpWorkspacePlace.struct.ghosts;
  make = IgmpWorkspacePlace.struct.make;
  eta = IgmpWorkspacePlace.struct.eta;
  beta = IgmpWorkspacePlace.struct.beta;
  codes = IgmpWorkspacePlace.the_codes;
}

abbrev pub mld_link : Pointing
mld_link = record {
  name = MldLink.struct.name;
  D = MldLink.struct.D;
  as_values = MldLink.struct.as_values;
  Ghost = MldLink.struct.Ghost;
  ghosts = MldLink.struct.ghosts;
  make = MldLink.struct.make;
  eta = MldLink.struct.eta;
  beta = MldLink.struct.beta;
  codes = MldLink.the_codes;
}

abbrev pub mld_link_place : Pointing
mld_link_place = record {
  name = MldLinkPlace.struct.name;
  D = MldLinkPlace.struct.D;
  as_values = MldLinkPlace.struct.as_values;
  Ghost = MldLinkPlace.struct.Ghost;
  ghosts = MldLinkPlace.struct.ghosts;
  make = MldLinkPlace.struct.make;
  eta = MldLinkPlace.struct.eta;
  beta = MldLinkPlace.struct.beta;
  codes = MldLinkPlace.the_codes;
}

abbrev pub mld_workspace : Pointing
mld_workspace = record {
  name = MldWorkspace.struct.name;
  D = MldWorkspace.struct.D;
  as_values = MldWorkspace.struct.as_values;
  Ghost = MldWorkspace.struct.Ghost;
  ghosts = MldWorkspace.struct.ghosts;
  make = MldWorkspace.struct.make;
  eta = MldWorkspace.struct.eta;
  beta = MldWorkspace.struct.beta;
  codes = MldWorkspace.the_codes;
}

abbrev pub mld_workspace_place : Pointing
mld_workspace_place = record {
  name = MldWorkspacePlace.struct.name;
  D = MldWorkspacePlace.struct.D;
  as_values = MldWorkspacePlace.struct.as_values;
  Ghost = MldWorkspacePlace.struct.Ghost;
  ghosts = MldWorkspacePlace.struct.ghosts;
  make = MldWorkspacePlace.struct.make;
  eta = MldWorkspacePlace.struct.eta;
  beta = MldWorkspacePlace.struct.beta;
  codes = MldWorkspacePlace.the_codes;
}
