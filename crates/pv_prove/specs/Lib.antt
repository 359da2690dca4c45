pub mod CertificateLines
pub mod Certificates
pub mod Unjudged
pub mod Proving
pub mod Certifying
pub mod Replaying
pub mod Judging
