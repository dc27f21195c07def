pub mod HostingLaws
